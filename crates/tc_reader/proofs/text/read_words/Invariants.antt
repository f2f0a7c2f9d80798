use Rattle.std.{proofs.Common.{◌≡◌, map}, specs.Prelude.filter}
use Rattle.tc_reader.specs.Inside.{is_some_text}
use Rattle.tc_reader.proofs.text.read_words.Given as goal

abbrev pub invariant-loop-part : goal.invariant-loop-part
invariant-loop-part l = map (λ w. w.now) l.list.items ≡ filter is_some_text (map (λ w. w.now) l.yielded)
