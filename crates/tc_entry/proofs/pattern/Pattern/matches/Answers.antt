use Rattle.std.{proofs.Common.{◌==◌, ◌∙◌, ap, ap₂, sym}, specs.{List.list_any, Str.bytes_eq}}
use Rattle.tc_entry.proofs.Patterns.{matches_same}
use Rattle.tc_entry.proofs.pattern.Pattern.matches.Goals as goal

pub returns-else-has_star : goal.returns-else-has_star
returns-else-has_star c =
    let spelled = c.bytes-pattern.ensures.bytes in
    let none = sym (ap (list_any (λ b. b == 42)) spelled) ∙ (sym c.has_star.ensures ∙ c.if-has_star.false) in
    c.eq.ensures ∙ (ap₂ bytes_eq spelled c.bytes.ensures.bytes ∙ sym (matches_same c.args.self.now c.args.name.now none))
