use Rattle.lines.specs.Lines.{bytes_of}
use Rattle.trace.proofs.SessionLaws.{finish_early, finish_small, finish_done, finish_refused}
use Rattle.trace.proofs.Session.finish.Goals as goal

pub returns-then-self : goal.returns-then-self
returns-then-self c = let a = c.args in
    let both = finish_early a.self a.out.now c.if-self.true in
    record {
      value = both.0;
      out_after = both.1.0;
      upper_bound = both.1.1;
    }

pub returns-then-out-lt4096 : goal.returns-then-out-lt4096
returns-then-out-lt4096 c = let a = c.args in
    let both = finish_small a.self a.out.now c.if-out-lt4096.true in
    record {
      value = both.0;
      out_after = both.1.0;
      upper_bound = both.1.1;
    }

pub returns-in-None : goal.returns-in-None
returns-in-None c = let a = c.args in
    let both = finish_done a.self a.out.now c.put_ending.new.out c.put_ending.result c.if-self.false c.if-out-lt4096.false c.in-None.is
    c.left.ensures c.put_ending.ensures in
    record {
      value = both.0;
      out_after = both.1.0;
      upper_bound = both.1.1;
    }

pub returns-in-Some : goal.returns-in-Some
unfolding bytes_of
returns-in-Some c = let a = c.args in
    let both = finish_refused a.self a.out.now _ c.put_numbered.new.out c.put_numbered.result c.if-self.false c.if-out-lt4096.false c.in-Some.is
    c.put_numbered.ensures in
    record {
      value = both.0;
      out_after = both.1.0;
      upper_bound = both.1.1;
    }
