use Rattle.std.{proofs.{Common.{◌≡◌, ◌∙◌, ap, rules, sym}, lemmas.Nat.le_bytes_4}, specs.Int.{w32, to_le_bytes}}
use Rattle.tc_text.proofs.cursor.are_same.Goals as goal

pub returns-clause-same : goal.returns-clause-same
returns-clause-same c same =
    let numbers : c.from_le_bytes.result ≡ c.from_le_bytes-2.result = search rules in
    sym (le_bytes_4 c.args.found _ (search rules) (search rules) c.from_le_bytes.ensures)
    ∙ (ap (to_le_bytes w32) numbers ∙ le_bytes_4 c.args.wanted _ (search rules) (search rules) c.from_le_bytes-2.ensures)
