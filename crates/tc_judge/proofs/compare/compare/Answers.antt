use Rattle.std.{proofs.{Common.{rules, ◌≡◌, ◌∙◌, ◌<◌, ◌≤◌, ◌++◌, [], length, drop, get_or, reverse, take, ap, refl, sym, subst, arith}, lemmas.{List.{drop_all, take_all}, Slice.Zip.AllZip-long}}, specs.List.flat_map}
use Rattle.tc_judge.{specs.{Compared.{IsCompared, missing, note}, Inside.{IsJudgedBlock, IsWholeOfBlock, StandsBeside}, declared.compare.Wrong.Wrong}, proofs.Beside.{compared_more, missing_is}}
use Rattle.tc_judge.proofs.compare.compare.Goals as goal

pub loop-block-preserved : goal.loop-block-preserved
loop-block-preserved c =
    let j = c.block-item.result in
    let i = c.loop-block.block-index in
    let within : i < length c.args.blocks.now = search rules in
    let item : get_or c.args.blocks.now i j ≡ j = search rules in (
      c.in_ok-meet.ensures.whole,
      compared_more c.args.ready.items c.args.blocks.now i j c.loop-block.comparing c.meet.new.self c.loop-block.notes.items c.append_note.new.out.items c.in_ok-wrong.wrong
          within item c.loop-block.invariant.1 c.in_ok-wrong.ensures c.in_ok-append_note.ensures c.in_ok-meet.ensures.meets,
    )

pub loop-block-init : goal.loop-block-init
loop-block-init c = (
  c.in_ok-comparing.ensures.whole,
  λ cases blocks each judged. (c.in_ok-comparing.ensures.beside cases each, λ rest is. subst (λ l. IsCompared cases [] blocks (l ++ rest)) (sym c.new-notes.ensures.items) is),
)

pub returns : goal.returns
returns c cases all each judged =
    let so = c.loop-block.invariant.1 cases all each judged in
    let i = c.loop-block.block-index in
    let long : length c.args.blocks.now ≡ length all = AllZip-long (IsJudgedBlock IsWholeOfBlock) all c.args.blocks.now judged in
    let to_end : length c.args.blocks.now ≤ i = search rules in
    let whole : take i all ≡ all = take_all i all (omega (arith, long, to_end)) in
    let none : drop i all ≡ [] = drop_all i all (omega (arith, long, to_end)) in
    let names = c.in_ok-missing.ensures ∙ missing_is c.loop-block.comparing cases (reverse all) (subst (λ l. StandsBeside cases (reverse l) c.loop-block.comparing) whole so.0) in
    let lent : c.as_slice.result.now ≡ missing (reverse all) cases = c.as_slice.ensures.value ∙ names in
    let rest = flat_map (λ n. note n Wrong.Missing) (missing (reverse all) cases) in
    let at_end = subst (λ l. IsCompared cases (reverse (take i all)) l rest) (sym none) (subst (λ l. rest ≡ flat_map (λ n. note n Wrong.Missing) (missing (reverse l) cases)) (sym whole) refl) in (
      subst (IsCompared cases [] all) (sym (c.in_ok-append_missing.ensures ∙ ap (λ l. c.loop-block.notes.items ++ flat_map (λ n. note n Wrong.Missing) l) lent)) (so.1 rest at_end),
      names,
    )
