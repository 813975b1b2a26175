-- That a hart can hold its registers: taken apart by register, put together, and kept where a group of them is replaced.
use Prim.Native.Nat.{ℕ, ◌%◌}
use mathlib.Core.Path.{◌≡◌, refl, sym, ◌∙◌}
use mathlib.Core.Bool.{true, not}
use lib.Bits.{bit_and}
use lib.Dec.{eqb, ltb}
use Rattle.bits.specs.Mask.{within}
use Rattle.pmp.specs.Number.{is_mode}
use Rattle.bits.proofs.Conjunction.{both, join}
use Rattle.bits.proofs.BitSolve.{E, lit, and, or}
use Rattle.steps.specs.declared.Level.{Level}
use Rattle.steps.specs.declared.Level.TheVariants.{Supervisor, Machine}
use Rattle.registers.specs.declared.LevelRegisters.{LevelRegisters}
use Rattle.registers.specs.declared.Interrupts.{Interrupts}
use Rattle.registers.specs.declared.Registers.{Registers}
use Rattle.registers.specs.Masks.{mstatus_mask, sxl_uxl, medeleg_mask, mideleg_mask, mie_mask, mip_mask, lines_mask, counters_mask, cause_mask}
use Rattle.registers.specs.Status.{pp_mask, mpp_two}
use Rattle.registers.specs.Hold.{aligned, kept_status, status_holdable, interrupts_holdable, level_holdable, registers_holdable, reset_registers}
use Rattle.registers.specs.Update.{with_flow, with_medeleg, with_interrupts, with_counters, level_of, with_level}

-- mstatus = 0xA00000000 plus bits within 0x7E19AA; MPP not 2
pub record StatusHeld (mstatus : ℕ) : Type 0 where
  pub kept : eqb (kept_status mstatus) mstatus ≡ true
  pub mpp : not (eqb (bit_and mstatus (pp_mask Machine)) mpp_two) ≡ true

pub status_held : (mstatus : ℕ) → status_holdable mstatus ≡ true → StatusHeld mstatus
status_held mstatus p =
    let w = both (eqb (kept_status mstatus) mstatus) (not (eqb (bit_and mstatus (pp_mask Machine)) mpp_two)) p in
    record { kept = w.0; mpp = w.1 }

pub status_hold : (mstatus : ℕ) → StatusHeld mstatus → status_holdable mstatus ≡ true
status_hold mstatus k = join (eqb (kept_status mstatus) mstatus) (not (eqb (bit_and mstatus (pp_mask Machine)) mpp_two)) k.kept k.mpp

-- what is kept of an mstatus, for equations with literal masks
abbrev pub kept_e : E → E
kept_e e = or (and e (lit mstatus_mask)) (lit sxl_uxl)

-- the trap registers of one level
pub record LevelHeld (l : LevelRegisters) : Type 0 where
  pub tvec : ltb (l.tvec % 4) 2 ≡ true
  pub counteren : within counters_mask l.counteren ≡ true
  pub epc : aligned l.epc ≡ true
  pub cause : within cause_mask l.cause ≡ true

pub level_held : (l : LevelRegisters) → level_holdable l ≡ true → LevelHeld l
level_held l p =
    let w = both _ _ p in
    let v = both _ _ w.1 in
    let u = both _ _ v.1 in
    record { tvec = w.0; counteren = v.0; epc = u.0; cause = u.1 }

pub level_hold : (l : LevelRegisters) → LevelHeld l → level_holdable l ≡ true
level_hold l k = join _ _ k.tvec (join _ _ k.counteren (join _ _ k.epc k.cause))

-- all registers but those of protection
pub record Held (r : Registers) : Type 0 where
  pub mode : is_mode r.mode ≡ true
  pub pc : aligned r.pc ≡ true
  pub mstatus : status_holdable r.mstatus ≡ true
  pub medeleg : within medeleg_mask r.medeleg ≡ true
  pub mideleg : within mideleg_mask r.interrupts.mideleg ≡ true
  pub mie : within mie_mask r.interrupts.mie ≡ true
  pub mip : within mip_mask r.interrupts.mip ≡ true
  pub lines : within lines_mask r.interrupts.lines ≡ true
  pub mcountinhibit : within counters_mask r.counters.mcountinhibit ≡ true
  pub machine : level_holdable r.machine ≡ true
  pub supervisor : level_holdable r.supervisor ≡ true

pub held : (r : Registers) → registers_holdable r ≡ true → Held r
unfolding registers_holdable
held r p =
    let a = both _ _ p in
    let b = both _ _ a.1 in
    let c = both _ _ b.1 in
    let d = both _ _ c.1 in
    let e = both _ _ d.1 in
    let f = both _ _ e.1 in
    let g = both _ _ f.1 in
    let i = both _ _ e.0 in
    let j = both _ _ i.1 in
    let k = both _ _ j.1 in
    record {
      mode = a.0;
      pc = b.0;
      mstatus = c.0;
      medeleg = d.0;
      mideleg = i.0;
      mie = j.0;
      mip = k.0;
      lines = k.1;
      mcountinhibit = f.0;
      machine = g.0;
      supervisor = g.1;
    }

pub interrupts_hold : (i : Interrupts) → within mideleg_mask i.mideleg ≡ true → within mie_mask i.mie ≡ true → within mip_mask i.mip ≡ true
    → within lines_mask i.lines ≡ true → interrupts_holdable i ≡ true
interrupts_hold i a b c d = join _ _ a (join _ _ b (join _ _ c d))

pub hold : (r : Registers) → Held r → registers_holdable r ≡ true
unfolding registers_holdable
hold r k =
    join _ _ k.mode
    (join _ _ k.pc
    (join _ _ k.mstatus
    (join _ _ k.medeleg
    (join _ _ (interrupts_hold r.interrupts k.mideleg k.mie k.mip k.lines)
    (join _ _ k.mcountinhibit (join _ _ k.machine k.supervisor))))))

pub level_of_held : (level : Level) (r : Registers) → registers_holdable r ≡ true → level_holdable (level_of level r) ≡ true
level_of_held Supervisor r p = (held r p).supervisor
level_of_held Machine r p = (held r p).machine

-- ---- a group replaced by what a hart can hold

module _ (r : Registers) (p : registers_holdable r ≡ true) where
  pub flow_kept : (mode pc mstatus : ℕ) → is_mode mode ≡ true → aligned pc ≡ true → status_holdable mstatus ≡ true
      → registers_holdable (with_flow r mode pc mstatus) ≡ true
  unfolding registers_holdable
  flow_kept mode pc mstatus a b c = let k = held r p in rw (a ∙ sym k.mode, b ∙ sym k.pc, c ∙ sym k.mstatus) p

  pub medeleg_kept : (medeleg : ℕ) → within medeleg_mask medeleg ≡ true → registers_holdable (with_medeleg r medeleg) ≡ true
  unfolding registers_holdable
  medeleg_kept medeleg a = rw (a ∙ sym (held r p).medeleg) p

  pub interrupts_kept : (mideleg mie mip lines : ℕ) → within mideleg_mask mideleg ≡ true → within mie_mask mie ≡ true → within mip_mask mip ≡ true
      → within lines_mask lines ≡ true → registers_holdable (with_interrupts r mideleg mie mip lines) ≡ true
  unfolding registers_holdable
  interrupts_kept mideleg mie mip lines a b c d =
      let k = held r p in
      rw (a ∙ sym k.mideleg, b ∙ sym k.mie, c ∙ sym k.mip, d ∙ sym k.lines) p

  -- mcycle and minstret: any 64 bits
  pub counters_kept : (mcountinhibit mcycle minstret : ℕ) → within counters_mask mcountinhibit ≡ true
      → registers_holdable (with_counters r mcountinhibit mcycle minstret) ≡ true
  unfolding registers_holdable
  counters_kept mcountinhibit mcycle minstret a = rw (a ∙ sym (held r p).mcountinhibit) p

  pub level_kept : (level : Level) (l : LevelRegisters) → level_holdable l ≡ true → registers_holdable (with_level level r l) ≡ true
  unfolding registers_holdable
  level_kept Supervisor l a = rw (a ∙ sym (held r p).supervisor) p
  level_kept Machine l a = rw (a ∙ sym (held r p).machine) p

pub reset-held : registers_holdable reset_registers ≡ true
unfolding registers_holdable
reset-held = refl
