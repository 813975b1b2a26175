use borrow.Author.Tests.{not-true, not-false}
use Rattle.paging.specs.Memory.{memory_of}
use Rattle.trace.proofs.SessionLaws.{feed_ended, feed_small, feed_done}
use Rattle.trace.proofs.Session.feed.Goals as goal

pub returns-then-not-self : goal.returns-then-not-self
returns-then-not-self c = let a = c.args in
    let both = feed_ended (memory_of a.memory) a.self a.piece.now a.out.now (not-true _ c.if-not-self.true) in
    record {
      value = both.0;
      out_after = both.1.0;
      filled_in_bounds = both.1.1;
    }

pub returns-then-room-came : goal.returns-then-room-came
returns-then-room-came c = let a = c.args in
    let both = feed_small (memory_of a.memory) a.self a.piece.now a.out.now c.if-room-came.true in
    record {
      value = both.0;
      out_after = both.1.0;
      filled_in_bounds = both.1.1;
    }

pub returns : goal.returns
returns c = let a = c.args in
    let both = feed_done (memory_of a.memory) a.self a.piece.now a.out.now {after = c.read-next.new.out}
    (not-false _ c.if-not-self.false) c.if-room-came.false c.from-words.ensures.1 (c.read-next.ensures.feeds a.self.map) c.handed_back-after.ensures in
    record {
      value = both.0;
      out_after = both.1.0;
      filled_in_bounds = both.1.1;
    }
