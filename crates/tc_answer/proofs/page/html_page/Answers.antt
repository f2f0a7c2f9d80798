use Rattle.std.proofs.Common.{◌∙◌, ◌++◌, ap, append_assoc}
use Rattle.tc_answer.specs.{Page.{held, page_of}, declared.{head.TheConstants.HEAD, tail.TheConstants.TAIL}}
use Rattle.tc_answer.proofs.page.html_page.Goals as goal

pub returns : goal.returns
unfolding page_of
returns c =
    let text = c.args.text.now in
    let first = c.in_ok-extend_from_slice.ensures.items ∙ ap (λ l. l ++ HEAD.now) c.new-page.ensures.items in
    let both = c.in_ok-append_held.ensures ∙ ap (λ l. l ++ held text) first in
    c.in_ok-extend_from_slice-2.ensures.items ∙ (ap (λ l. l ++ TAIL.now) both ∙ append_assoc HEAD.now (held text) TAIL.now)
