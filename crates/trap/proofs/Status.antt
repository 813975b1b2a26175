-- What entry and return make of an mstatus that a hart can hold, a hart can hold. Assumes nothing.
use Rattle.std.proofs.Common.{◌≡◌, ℕ, zero, suc, ◌+◌, ◌-◌, ◌*◌, ◌/◌, ◌%◌, ◌^◌, ◌<◌, Bool, true, false, cond, not, ◌||◌, eqb, [], ◌∷◌, refl, ⊎_elim, mod-lt, zero-lt-suc, arith, eq-eqb, eqb-true}
use lib.Bits.{bit_and, bit_or, and_shr, and_high}
use Rattle.bits.proofs.Conjunction.{join, one_of}
use Rattle.bits.proofs.BitLaws.{and_shl}
use Rattle.bits.proofs.BitSolve.{E, lit, var, and, or, G, eq, imp, eval, check, solve}
use Rattle.steps.specs.declared.Level.{Level}
use Rattle.steps.specs.declared.Level.TheVariants.{Supervisor, Machine}
use Rattle.pmp.specs.Number.{is_mode}
use Rattle.registers.specs.Hold.{kept_status, status_holdable}
use Rattle.registers.specs.Status.{ie_mask, pie_mask, pp_mask, pp_unit, pp_modes, mpp_two, previous_mode, mprv_mask}
use Rattle.registers.proofs.Held.{status_held, kept_e}
use Rattle.trap.specs.Enter.{entered_status}
use Rattle.trap.specs.Return.{cleared_mprv, returned_status}

-- a mode that a hart can be in is 0, 1 or 3
pub mode_cases : (P : ℕ → Type 0) → P 0 → P 1 → P 3 → (mode : ℕ) → is_mode mode ≡ true → P mode
mode_cases P u s m mode h =
    ⊎_elim (λ e. rw (eqb-true mode 0 e) u)
    (λ r. ⊎_elim (λ e. rw (eqb-true mode 1 e) s) (λ e. rw (eqb-true mode 3 e) m) (one_of (eqb mode 1) (eqb mode 3) r))
    (one_of (eqb mode 0) (eqb mode 1 || eqb mode 3) h)

field_cases : (P : ℕ → Type 0) → P 0 → P 1 → P 2 → P 3 → (v : ℕ) → v < 4 → P v
field_cases P a b c d zero h = a
field_cases P a b c d (suc zero) h = b
field_cases P a b c d (suc (suc zero)) h = c
field_cases P a b c d (suc (suc (suc zero))) h = d
field_cases P a b c d (suc (suc (suc (suc v)))) h = absurd (omega arith)

kept : (x : ℕ) → status_holdable x ≡ true → kept_status x ≡ x
kept x p = eqb-true (kept_status x) x (status_held x p).kept

-- ---- entry: var 0 is mstatus, var 1 mstatus four places up, var 2 the old mode at xPP

abbrev entered_e : Level → E
entered_e level =
    or (and (var 0) (lit (2 ^ 64 - 1 - (ie_mask level + pie_mask level + pp_mask level)))) (or (and (var 1) (lit (pie_mask level))) (var 2))

-- xIE moves to xPIE
moved_up : (level : Level) (x : ℕ) → bit_and x (ie_mask level) * 16 ≡ bit_and (x * 16) (pie_mask level)
moved_up Supervisor x = and_shl x 0x2 4
moved_up Machine x = and_shl x 0x8 4

-- a mode at xPP has no bits beside it
at_pp : (level : Level) (mode : ℕ) → bit_and (mode % pp_modes level * pp_unit level) (pp_mask level) ≡ mode % pp_modes level * pp_unit level
at_pp Supervisor mode = rw (and_high (mode % 2 * 0x100) 1 8) (omega arith)
at_pp Machine mode = rw (and_high (mode % 4 * 0x800) 2 11) (omega arith)

-- the bits stay those that can be kept; MPP is as it was for S, and the old mode for M
abbrev entered_kept : Level → G
entered_kept level =
    imp (kept_e (var 0)) (var 0) (imp (and (var 2) (lit (pp_mask level))) (var 2) (eq (kept_e (entered_e level)) (entered_e level)))

abbrev entered_mpp_is : Level → E → G
entered_mpp_is level mpp = imp (and (var 2) (lit (pp_mask level))) (var 2) (eq (and (entered_e level) (lit (pp_mask Machine))) mpp)

entered_check : (level : Level) → check 3 (entered_kept level) ≡ true
entered_check Supervisor = refl
entered_check Machine = refl

entered_mpp_held : (level : Level) (mode x : ℕ) → is_mode mode ≡ true → not (eqb (bit_and x (pp_mask Machine)) mpp_two) ≡ true
    → not (eqb (bit_and (eval (x ∷ x * 16 ∷ mode % pp_modes level * pp_unit level ∷ []) (entered_e level)) (pp_mask Machine)) mpp_two) ≡ true
entered_mpp_held Supervisor mode x m p =
    rw (solve (entered_mpp_is Supervisor (and (var 0) (lit (pp_mask Machine)))) (x ∷ x * 16 ∷ mode % 2 * 0x100 ∷ []) refl (at_pp Supervisor mode)) p
entered_mpp_held Machine mode x m p =
    rw (solve (entered_mpp_is Machine (var 2)) (x ∷ x * 16 ∷ mode % 4 * 0x800 ∷ []) refl (at_pp Machine mode))
    (mode_cases (λ (m : ℕ). not (eqb (m % 4 * 0x800) mpp_two) ≡ true) refl refl refl mode m)

pub entered_status_holdable : (level : Level) (mode mstatus : ℕ) → is_mode mode ≡ true → status_holdable mstatus ≡ true
    → status_holdable (entered_status level mode mstatus) ≡ true
unfolding entered_status
entered_status_holdable level mode x m p =
    rw (moved_up level x)
    (join _ _
    (eq-eqb _ _
    (solve (entered_kept level) (x ∷ x * 16 ∷ mode % pp_modes level * pp_unit level ∷ []) (entered_check level) (kept x p) (at_pp level mode)))
    (entered_mpp_held level mode x m (status_held x p).mpp))

-- ---- return: var 0 is mstatus, var 1 mstatus four places down, var 2 the bits that are left beside xIE and xPP

abbrev returned_e : Level → E
returned_e level =
    or (and (and (var 0) (var 2)) (lit (2 ^ 64 - 1 - (ie_mask level + pp_mask level)))) (or (and (var 1) (lit (ie_mask level))) (lit (pie_mask level)))

-- xPIE moves to xIE
moved_down : (level : Level) (x : ℕ) → bit_and x (pie_mask level) / 16 ≡ bit_and (x / 16) (ie_mask level)
moved_down Supervisor x = and_shr x 0x20 4
moved_down Machine x = and_shr x 0x80 4

-- all bits but MPRV are left
abbrev all_but_mprv : G → G
all_but_mprv g = imp (or (var 2) (lit mprv_mask)) (lit (2 ^ 64 - 1)) g

all_but_mprv_lem : (machine : Bool) → bit_or (2 ^ 64 - 1 - cond machine 0 mprv_mask) mprv_mask ≡ 2 ^ 64 - 1
all_but_mprv_lem true = refl
all_but_mprv_lem false = refl

-- the bits stay those that can be kept; MPP is as it was for S, and 0 for M
abbrev returned_kept : Level → G
returned_kept level = all_but_mprv (imp (kept_e (var 0)) (var 0) (eq (kept_e (returned_e level)) (returned_e level)))

abbrev returned_mpp : Level → E
returned_mpp Supervisor = and (var 0) (lit (pp_mask Machine))
returned_mpp Machine = lit 0

abbrev returned_mpp_is : Level → G
returned_mpp_is level = all_but_mprv (eq (and (returned_e level) (lit (pp_mask Machine))) (returned_mpp level))

returned_check : (level : Level) → (check 3 (returned_kept level) ≡ true) × (check 3 (returned_mpp_is level) ≡ true)
returned_check Supervisor = (refl, refl)
returned_check Machine = (refl, refl)

mpp_held : (level : Level) (x y z : ℕ) → not (eqb (bit_and x (pp_mask Machine)) mpp_two) ≡ true
    → not (eqb (eval (x ∷ y ∷ z ∷ []) (returned_mpp level)) mpp_two) ≡ true
mpp_held Supervisor x y z p = p
mpp_held Machine x y z p = refl

pub returned_status_holdable : (level : Level) (mstatus : ℕ) → status_holdable mstatus ≡ true → status_holdable (returned_status level mstatus) ≡ true
unfolding returned_status
returned_status_holdable level x p =
    let w = returned_check level in
    let left = 2 ^ 64 - 1 - cleared_mprv (previous_mode level x) in
    let l = all_but_mprv_lem (eqb (previous_mode level x) 3) in
    rw (moved_down level x)
    (join _ _ (eq-eqb _ _ (solve (returned_kept level) (x ∷ x / 16 ∷ left ∷ []) w.0 l (kept x p)))
    (rw (solve (returned_mpp_is level) (x ∷ x / 16 ∷ left ∷ []) w.1 l) (mpp_held level x (x / 16) left (status_held x p).mpp)))

-- ---- xPP names a mode

pub previous_mode_holdable : (level : Level) (mstatus : ℕ) → status_holdable mstatus ≡ true → is_mode (previous_mode level mstatus) ≡ true
previous_mode_holdable Supervisor x p =
    let e : previous_mode Supervisor x ≡ x / 0x100 % 2 = rw (and_high x 1 8) (omega arith) in
    rw e
    (field_cases (λ (v : ℕ). v < 2 → is_mode v ≡ true) (λ h. refl) (λ h. refl) (λ h. absurd (omega arith)) (λ h. refl) (x / 0x100 % 2) (omega arith) (omega arith))
previous_mode_holdable Machine x p =
    let e : previous_mode Machine x ≡ x / 0x800 % 4 = rw (and_high x 2 11) (omega arith) in
    rw e
    (field_cases (λ (v : ℕ). not (eqb (v * 0x800) mpp_two) ≡ true → is_mode v ≡ true) (λ q. refl) (λ q. refl) (λ q. q) (λ q. refl)
    (x / 0x800 % 4) (mod-lt (x / 0x800) (zero-lt-suc 3)) (rw (and_high x 2 11) at (status_held x p).mpp))
