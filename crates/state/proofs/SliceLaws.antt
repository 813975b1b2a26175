-- What a slice of 43 words reads as, and what is left in it. Assumes nothing.
use Prim.Native.Nat.{ℕ, ◌<◌}
use mathlib.Core.Path.{◌≡◌, refl, sym, ap, subst, ◌∙◌}
use mathlib.Core.List.{List, ◌++◌}
use native.Mathlib.Omega.{arith}
use borrow.Author.Tests.{eq-eqb, ne_eqb}
use lib.ListN.{length, get_or, set, drop, length-set}
use lib.Seq.{sets, length-sets, sets-eq, set-append_left}
use Rattle.bits.specs.Lists.{elements}
use Rattle.bits.proofs.ListLaws.{elements_are}
use Rattle.registers.specs.declared.Registers.{Registers}
use Rattle.protection.specs.declared.Pmp.{Pmp}
use Rattle.protection.specs.Arrays.{Arrays}
use Rattle.protection.proofs.Packing.{configs_back}
use Rattle.state.specs.declared.State.{State}
use Rattle.state.specs.Words.{register_words, pmp_words, words_of, registers_of, pmp_of, state_of}
use Rattle.state.specs.Slices.{loaded_registers, loaded_pmp, loaded_satp, loaded, stored_registers, stored_pmp, stored_satp, stored}

module _ (w : List ℕ) (fit : length w ≡ 43) where
  pub registers_loaded : loaded_registers w ≡ registers_of w
  unfolding loaded_registers
  registers_loaded = rw (eq-eqb (length w) 43 fit)

  pub pmp-loaded : loaded_pmp w ≡ pmp_of w
  unfolding loaded_pmp
  pmp-loaded = rw (eq-eqb (length w) 43 fit)

  pub satp-loaded : loaded_satp w ≡ get_or w 41 0
  unfolding loaded_satp
  satp-loaded = rw (eq-eqb (length w) 43 fit)

  pub all-loaded : loaded w ≡ state_of w
  all-loaded = λ j. record { registers = registers_loaded j; pmp = pmp-loaded j; satp = satp-loaded j }

  -- the words one by one
  spelt : w ≡ elements 43 0 w
  spelt = sym (elements_are w 43 0 fit)

  registers_put : (r : Registers) → stored_registers r w ≡ sets w 0 (register_words r)
  unfolding stored_registers
  registers_put r = rw (eq-eqb (length w) 43 fit)

  pmp-put : (p : Pmp) → stored_pmp p w ≡ sets (set w 42 p.grain) 23 (pmp_words p)
  unfolding stored_pmp
  pmp-put p = rw (eq-eqb (length w) 43 fit)

  satp-put : (satp : ℕ) → stored_satp satp w ≡ set w 41 satp
  unfolding stored_satp
  satp-put satp = rw (eq-eqb (length w) 43 fit)

-- words of another length stay as they are
pub registers_unfit : (w : List ℕ) (r : Registers) → (length w ≡ 43 → ⊥) → w ≡ stored_registers r w
unfolding stored_registers
registers_unfit w r h = rw (ne_eqb (length w) 43 h)

registers_spelt : (r : Registers) (w : List ℕ)
    → state_of (sets (elements 43 0 w) 0 (register_words r)) ≡ record { registers = r; pmp = pmp_of (elements 43 0 w); satp = get_or (elements 43 0 w) 41 0 }
unfolding elements
registers_spelt r w = refl

pmp_spelt : (p : Pmp) (w : List ℕ) → Arrays p
    → state_of (sets (set (elements 43 0 w) 42 p.grain) 23 (pmp_words p)) ≡ record { registers = registers_of (elements 43 0 w); pmp = p; satp = get_or (elements 43 0 w) 41 0 }
unfolding elements
pmp_spelt p w t =
    λ j.
    record {
      registers = registers_of (elements 43 0 w);
      pmp = record { grain = p.grain; cfgs = configs_back p.cfgs t.cfgs t.bytes j; addrs = elements_are p.addrs 16 0 t.addrs j };
      satp = get_or (elements 43 0 w) 41 0;
    }

satp_spelt : (satp : ℕ) (w : List ℕ)
    → state_of (set (elements 43 0 w) 41 satp) ≡ record { registers = registers_of (elements 43 0 w); pmp = pmp_of (elements 43 0 w); satp = satp }
unfolding elements
satp_spelt satp w = refl

front_spelt : (w : List ℕ) → elements 43 0 w ≡ register_words (registers_of (elements 43 0 w)) ++ drop 23 (elements 43 0 w)
unfolding elements
front_spelt w = refl

all_spelt : (s : State) (w : List ℕ)
    → set (sets (set (sets (elements 43 0 w) 0 (register_words s.registers)) 42 s.pmp.grain) 23 (pmp_words s.pmp)) 41 s.satp ≡ words_of s
unfolding words_of elements
all_spelt s w = refl

module _ (w : List ℕ) (fit : length w ≡ 43) where
  -- the state of words whose registers were written
  pub registers_stored : (r : Registers) → state_of (stored_registers r w) ≡ record { registers = r; pmp = pmp_of w; satp = get_or w 41 0 }
  registers_stored r =
      ap state_of (registers_put w fit r)
      ∙ subst (λ (v : List ℕ). state_of (sets v 0 (register_words r)) ≡ record { registers = r; pmp = pmp_of v; satp = get_or v 41 0 }) (sym (spelt w fit)) (registers_spelt r w)

  -- the state of words whose protection registers were written
  pub pmp-stored : (p : Pmp) → Arrays p → state_of (stored_pmp p w) ≡ record { registers = registers_of w; pmp = p; satp = get_or w 41 0 }
  pmp-stored p t =
      ap state_of (pmp-put w fit p)
      ∙ subst (λ (v : List ℕ). state_of (sets (set v 42 p.grain) 23 (pmp_words p)) ≡ record { registers = registers_of v; pmp = p; satp = get_or v 41 0 }) (sym (spelt w fit)) (pmp_spelt p w t)

  -- the state of words whose satp was written
  pub satp-stored : (satp : ℕ) → state_of (stored_satp satp w) ≡ record { registers = registers_of w; pmp = pmp_of w; satp = satp }
  satp-stored satp =
      ap state_of (satp-put w fit satp)
      ∙ subst (λ (v : List ℕ). state_of (set v 41 satp) ≡ record { registers = registers_of v; pmp = pmp_of v; satp = satp }) (sym (spelt w fit)) (satp_spelt satp w)

  pub registers_length : (r : Registers) → length (stored_registers r w) ≡ 43
  registers_length r = ap length (registers_put w fit r) ∙ length-sets w 0 (register_words r) ∙ fit

  pub pmp-length : (p : Pmp) → length (stored_pmp p w) ≡ 43
  pmp-length p = ap length (pmp-put w fit p) ∙ length-sets (set w 42 p.grain) 23 (pmp_words p) ∙ length-set w 42 p.grain ∙ fit

  pub satp-length : (satp : ℕ) → length (stored_satp satp w) ≡ 43
  satp-length satp = ap length (satp-put w fit satp) ∙ length-set w 41 satp ∙ fit

module _ (w : List ℕ) (fit : length w ≡ 43) where
  -- the words that a whole state leaves are its own
  pub all-stored : (s : State) → stored s w ≡ words_of s
  all-stored s =
      let r = stored_registers s.registers w in
      satp-put (stored_pmp s.pmp r) (pmp-length r (registers_length w fit s.registers) s.pmp) s.satp
      ∙ ap (λ (v : List ℕ). set v 41 s.satp) (pmp-put r (registers_length w fit s.registers) s.pmp)
      ∙ ap (λ (v : List ℕ). set (sets (set v 42 s.pmp.grain) 23 (pmp_words s.pmp)) 41 s.satp) (registers_put w fit s.registers)
      ∙ subst (λ (v : List ℕ). set (sets (set (sets v 0 (register_words s.registers)) 42 s.pmp.grain) 23 (pmp_words s.pmp)) 41 s.satp ≡ words_of s) (sym (spelt w fit))
      (all_spelt s w)

  -- ---- one word

  -- the registers lie in front
  front : w ≡ register_words (registers_of w) ++ drop 23 w
  front = subst (λ (v : List ℕ). v ≡ register_words (registers_of v) ++ drop 23 v) (sym (spelt w fit)) (front_spelt w)

  -- a word that is stored where it lies: the registers with that one replaced
  pub one_stored : (i v : ℕ) (r : Registers) → i < 23 → register_words r ≡ set (register_words (registers_of w)) i v → set w i v ≡ stored_registers r w
  one_stored i v r h e =
      ap (λ (l : List ℕ). set l i v) front
      ∙ set-append_left (register_words (registers_of w)) (drop 23 w) i v h
      ∙ ap (λ (l : List ℕ). l ++ drop 23 w) (sym e)
      ∙ sym (registers_put w fit r ∙ sets-eq (register_words r) w 0 (omega (arith, fit)))

  -- registers that are stored as they were
  pub none-stored : w ≡ stored_registers (registers_of w) w
  none-stored = front ∙ sym (registers_put w fit (registers_of w) ∙ sets-eq (register_words (registers_of w)) w 0 (omega (arith, fit)))
