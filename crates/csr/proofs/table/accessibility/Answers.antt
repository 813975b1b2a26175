use Prim.Native.Nat.{◌/◌}
use Rattle.csr.specs.Permit.{present}
use Rattle.csr.proofs.TableLaws.{numbers, in_row, in_absent_row, absent}
use Rattle.csr.proofs.table.accessibility.Goals as goal

pub returns-in_default : goal.returns-in_default
returns-in_default c =
    let r = c.in_default.in_default-own.rest in
    let n = c.args.address in
    in_absent_row n (λ i h.
    absent (n / 16) i h r.0.0.0.0.0.0.0.0.0.0.0.0.0.1 r.0.0.0.0.0.0.0.0.0.0.0.0.1 r.0.0.0.0.0.0.0.0.0.0.0.1 r.0.0.0.0.0.0.0.0.0.0.1 r.0.0.0.0.0.0.0.0.0.1 r.0.0.0.0.0.0.0.0.1 r.0.0.0.0.0.0.0.1 r.0.0.0.0.0.0.1 r.0.0.0.0.0.1 r.0.0.0.0.1 r.0.0.0.1 r.0.0.1 r.0.1 r.1)

pub returns-in-16 : goal.returns-in-16
unfolding present numbers
returns-in-16 c = in_row 0x10 c.args.address c.in-16.is

pub returns-in-20 : goal.returns-in-20
unfolding present numbers
returns-in-20 c = in_row 0x14 c.args.address c.in-20.is

pub returns-in-24 : goal.returns-in-24
unfolding present numbers
returns-in-24 c = in_row 0x18 c.args.address c.in-24.is

pub returns-in-48 : goal.returns-in-48
unfolding present numbers
returns-in-48 c = in_row 0x30 c.args.address c.in-48.is

pub returns-in-50 : goal.returns-in-50
unfolding present numbers
returns-in-50 c = in_row 0x32 c.args.address c.in-50.is

pub returns-in-51 : goal.returns-in-51
unfolding present numbers
returns-in-51 c = in_row 0x33 c.args.address c.in-51.is

pub returns-in-52 : goal.returns-in-52
unfolding present numbers
returns-in-52 c = in_row 0x34 c.args.address c.in-52.is

pub returns-in-58 : goal.returns-in-58
unfolding present numbers
returns-in-58 c = in_row 0x3A c.args.address c.in-58.is

pub returns-in-59 : goal.returns-in-59
unfolding present numbers
returns-in-59 c = in_row 0x3B c.args.address c.in-59.is

pub returns-in-176 : goal.returns-in-176
unfolding present numbers
returns-in-176 c = in_row 0xB0 c.args.address c.in-176.is

pub returns-in-177 : goal.returns-in-177
unfolding present numbers
returns-in-177 c = in_row 0xB1 c.args.address c.in-177.is

pub returns-in-192 : goal.returns-in-192
unfolding present numbers
returns-in-192 c = in_row 0xC0 c.args.address c.in-192.is

pub returns-in-193 : goal.returns-in-193
unfolding present numbers
returns-in-193 c = in_row 0xC1 c.args.address c.in-193.is

pub returns-in-241 : goal.returns-in-241
unfolding present numbers
returns-in-241 c = in_row 0xF1 c.args.address c.in-241.is
