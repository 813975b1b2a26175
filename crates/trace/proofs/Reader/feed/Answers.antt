use Rattle.paging.specs.Memory.{memory_of}
use Rattle.trace.proofs.FeedLaws.{fed_value}
use Rattle.trace.proofs.Reader.feed.Goals as goal

pub returns : goal.returns
returns c = let a = c.args in
    let both = fed_value (memory_of a.memory) a.self a.hart a.map a.scrap.now a.answers.now c.from-words.ensures.1 (c.feed_words-next.ensures a.map)
    c.handed_back-after.ensures in
    record {
      value = both.0;
      answers_after = both.1;
    }
