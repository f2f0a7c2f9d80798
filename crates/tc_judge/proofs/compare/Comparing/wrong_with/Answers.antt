use Rattle.std.proofs.{Common.{rules, ◌≡◌, ◌∙◌, ◌+◌, get_or, None, nat_lt, arith, refl, true, false, sym}, lemmas.Bool.Decides.nat_tests}
use Rattle.tc_judge.proofs.Beside.{course_judged, met_is, place_is, placed, scripts_at}
use Rattle.tc_judge.proofs.compare.Comparing.wrong_with.Goals as goal

pub returns-in_default : goal.returns-in_default
returns-in_default c cases before b is s =
    let none : c.place_among.result ≡ None = search rules in
    rw (place_is cases before b c.args.self.now _ None is.name s (sym none ∙ c.place_among.ensures.is)) refl

pub returns-then-has_name : goal.returns-then-has_name
returns-then-has_name c cases before b is s =
    rw (
      place_is cases before b c.args.self.now _ _ is.name s (sym c.in-Some.is ∙ c.place_among.ensures.is),
      met_is cases before b c.args.self.now _ true is.name s (sym c.if-has_name.true ∙ c.has_name.ensures),
    ) refl

pub returns-then-place-self : goal.returns-then-place-self
returns-then-place-self c cases before b is s =
    let late : nat_lt (c.in-Some.place + 1) c.args.self.now.next ≡ true = grind (arith, nat_tests) in
    rw (
      place_is cases before b c.args.self.now _ _ is.name s (sym c.in-Some.is ∙ c.place_among.ensures.is),
      met_is cases before b c.args.self.now _ false is.name s (sym c.if-has_name.false ∙ c.has_name.ensures),
      s.next c.in-Some.place ∙ late,
    ) refl

pub returns : goal.returns
returns c cases before b is s =
    let p = c.in-Some.place in
    let at = place_is cases before b c.args.self.now _ _ is.name s (sym c.in-Some.is ∙ c.place_among.ensures.is) in
    let t = placed cases b.header.name p at in
    let next : nat_lt (p + 1) c.args.self.now.next ≡ false = grind (arith, nat_tests) in
    let given : c.as_slice-scripts.result.now ≡ (get_or c.args.self.now.ready.items p c.index.result.now).jobs.items = search rules in
    rw c.then_some.ensures
    (course_judged cases before b c.args.block.now p t.0 _ _ c.in_ok-is.is' is at (met_is cases before b c.args.self.now _ false is.name s (sym c.if-has_name.false ∙ c.has_name.ensures)) (s.next p ∙ next) t.1
    (given ∙ scripts_at cases c.args.self.now.ready.items p t.0 c.index.result.now s.ready t.1) c.as_slice-entries.ensures.value c.in_ok-is.ensures)
