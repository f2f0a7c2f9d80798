use Rattle.std.{proofs.{Common.{rules, tests, ap, ◌∙◌}, lemmas.Iterator.{Consumers.{YieldsList-at, YieldsList-end}, Splits.YieldsList-from_slice_split}}, specs.Prelude.filter}
use Rattle.tc_reader.specs.{Inside.{is_some_text, is_space}, Text.words}
use Rattle.tc_reader.proofs.text.read_words.Goals as goal

pub returns : goal.returns
unfolding words
returns c =
    let seen = YieldsList-end
    (YieldsList-at c.into_iter-part-iterator.ensures.into_iter_gives
    (YieldsList-from_slice_split _ is_space c.args.line.now c.split-part-items.ensures.rest c.split-part-items.ensures.done c.split-part-items.ensures.closure (λ x r q k. search (rules, tests))))
    c.loop-part.yielded _ c.loop-part.yielded_by _ _ c.in-None.is c.next.ensures.steps in
    c.loop-part.invariant ∙ ap (filter is_some_text) seen.0
