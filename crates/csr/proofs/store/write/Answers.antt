use mathlib.Core.Path.{refl}
use native.Mathlib.Omega.{arith}
use borrow.Author.Rules.{rules}
use borrow.Author.Tests.{ne_eqb}
use Rattle.state.proofs.SliceLaws.{one_stored, none-stored}
use Rattle.csr.specs.Store.{registers_written}
use Rattle.csr.proofs.store.write.Goals as goal

pub returns-in_default : goal.returns-in_default
unfolding registers_written
returns-in_default c =
    let r = c.in_default.in_default-own.rest in
    rw (ne_eqb _ _ r.0.0.0.0.0.0.0.0.0.0.0.0.0.0.0.0.0.0.0.0.0.0.1, ne_eqb _ _ r.0.0.0.0.0.0.0.0.0.0.0.0.0.0.0.0.0.0.0.0.0.1, ne_eqb _ _ r.0.0.0.0.0.0.0.0.0.0.0.0.0.0.0.0.0.0.0.0.1, ne_eqb _ _ r.0.0.0.0.0.0.0.0.0.0.0.0.0.0.0.0.0.0.0.1, ne_eqb _ _ r.0.0.0.0.0.0.0.0.0.0.0.0.0.0.0.0.0.0.1, ne_eqb _ _ r.0.0.0.0.0.0.0.0.0.0.0.0.0.0.0.0.0.1, ne_eqb _ _ r.0.0.0.0.0.0.0.0.0.0.0.0.0.0.0.0.1, ne_eqb _ _ r.0.0.0.0.0.0.0.0.0.0.0.0.0.0.0.1, ne_eqb _ _ r.0.0.0.0.0.0.0.0.0.0.0.0.0.0.1, ne_eqb _ _ r.0.0.0.0.0.0.0.0.0.0.0.0.0.1, ne_eqb _ _ r.0.0.0.0.0.0.0.0.0.0.0.0.1, ne_eqb _ _ r.0.0.0.0.0.0.0.0.0.0.0.1, ne_eqb _ _ r.0.0.0.0.0.0.0.0.0.0.1, ne_eqb _ _ r.0.0.0.0.0.0.0.0.0.1, ne_eqb _ _ r.0.0.0.0.0.0.0.0.1, ne_eqb _ _ r.0.0.0.0.0.0.0.1, ne_eqb _ _ r.0.0.0.0.0.0.1, ne_eqb _ _ r.0.0.0.0.0.1, ne_eqb _ _ r.0.0.0.0.1, ne_eqb _ _ r.0.0.0.1, ne_eqb _ _ r.0.0.1, ne_eqb _ _ r.0.1, ne_eqb _ _ r.1)
    (none-stored c.args.words.now (search rules))

pub returns-in-256 : goal.returns-in-256
unfolding registers_written
returns-in-256 c = rw c.in-256.is ((one_stored c.args.words.now (search rules)) 2 _ _ (omega arith) refl)

pub returns-in-260 : goal.returns-in-260
unfolding registers_written
returns-in-260 c = rw c.in-260.is ((one_stored c.args.words.now (search rules)) 5 _ _ (omega arith) refl)

pub returns-in-261 : goal.returns-in-261
unfolding registers_written
returns-in-261 c = rw (c.in-261.is, c.tvec_written.ensures) ((one_stored c.args.words.now (search rules)) 15 _ _ (omega arith) refl)

pub returns-in-262 : goal.returns-in-262
unfolding registers_written
returns-in-262 c = rw c.in-262.is ((one_stored c.args.words.now (search rules)) 16 _ _ (omega arith) refl)

pub returns-in-320 : goal.returns-in-320
unfolding registers_written
returns-in-320 c = rw c.in-320.is ((one_stored c.args.words.now (search rules)) 17 _ _ (omega arith) refl)

pub returns-in-321 : goal.returns-in-321
unfolding registers_written
returns-in-321 c = rw c.in-321.is ((one_stored c.args.words.now (search rules)) 18 _ _ (omega arith) refl)

pub returns-in-322 : goal.returns-in-322
unfolding registers_written
returns-in-322 c = rw c.in-322.is ((one_stored c.args.words.now (search rules)) 19 _ _ (omega arith) refl)

pub returns-in-323 : goal.returns-in-323
unfolding registers_written
returns-in-323 c = rw c.in-323.is ((one_stored c.args.words.now (search rules)) 20 _ _ (omega arith) refl)

pub returns-in-324 : goal.returns-in-324
unfolding registers_written
returns-in-324 c = rw c.in-324.is ((one_stored c.args.words.now (search rules)) 6 _ _ (omega arith) refl)

pub returns-in-768 : goal.returns-in-768
unfolding registers_written
returns-in-768 c = rw (c.in-768.is, c.status_written.ensures) ((one_stored c.args.words.now (search rules)) 2 _ _ (omega arith) refl)

pub returns-in-770 : goal.returns-in-770
unfolding registers_written
returns-in-770 c = rw c.in-770.is ((one_stored c.args.words.now (search rules)) 3 _ _ (omega arith) refl)

pub returns-in-771 : goal.returns-in-771
unfolding registers_written
returns-in-771 c = rw c.in-771.is ((one_stored c.args.words.now (search rules)) 4 _ _ (omega arith) refl)

pub returns-in-772 : goal.returns-in-772
unfolding registers_written
returns-in-772 c = rw c.in-772.is ((one_stored c.args.words.now (search rules)) 5 _ _ (omega arith) refl)

pub returns-in-773 : goal.returns-in-773
unfolding registers_written
returns-in-773 c = rw (c.in-773.is, c.tvec_written-in-773.ensures) ((one_stored c.args.words.now (search rules)) 8 _ _ (omega arith) refl)

pub returns-in-774 : goal.returns-in-774
unfolding registers_written
returns-in-774 c = rw c.in-774.is ((one_stored c.args.words.now (search rules)) 9 _ _ (omega arith) refl)

pub returns-in-800 : goal.returns-in-800
unfolding registers_written
returns-in-800 c = rw c.in-800.is ((one_stored c.args.words.now (search rules)) 10 _ _ (omega arith) refl)

pub returns-in-832 : goal.returns-in-832
unfolding registers_written
returns-in-832 c = rw c.in-832.is ((one_stored c.args.words.now (search rules)) 11 _ _ (omega arith) refl)

pub returns-in-833 : goal.returns-in-833
unfolding registers_written
returns-in-833 c = rw c.in-833.is ((one_stored c.args.words.now (search rules)) 12 _ _ (omega arith) refl)

pub returns-in-834 : goal.returns-in-834
unfolding registers_written
returns-in-834 c = rw c.in-834.is ((one_stored c.args.words.now (search rules)) 13 _ _ (omega arith) refl)

pub returns-in-835 : goal.returns-in-835
unfolding registers_written
returns-in-835 c = rw c.in-835.is ((one_stored c.args.words.now (search rules)) 14 _ _ (omega arith) refl)

pub returns-in-836 : goal.returns-in-836
unfolding registers_written
returns-in-836 c = rw c.in-836.is ((one_stored c.args.words.now (search rules)) 6 _ _ (omega arith) refl)

pub returns-in-2816 : goal.returns-in-2816
unfolding registers_written
returns-in-2816 c = rw c.in-2816.is ((one_stored c.args.words.now (search rules)) 21 _ _ (omega arith) refl)

pub returns-in-2818 : goal.returns-in-2818
unfolding registers_written
returns-in-2818 c = rw c.in-2818.is ((one_stored c.args.words.now (search rules)) 22 _ _ (omega arith) refl)
