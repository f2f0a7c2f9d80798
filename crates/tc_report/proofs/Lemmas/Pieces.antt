-- What a live writer has written and counted, test case by test case.
use Rattle.std.{proofs.{Common.{ℕ, ◌≡◌, ◌∙◌, Bool, true, List, [], ◌∷◌, ◌++◌, Option, Some, None, map, sym, ap, subst, append_assoc}, lemmas.List.append-nil}, specs.{Prelude.IsSomeAnd, Io.KnownBytes.Appends}}
use Rattle.tc_rules.specs.Prelude.{worse, Verdict}
use Rattle.tc_stream.specs.Prelude.{AppendsPrefix}
use Rattle.tc_report.{specs.{Inside.{IsEndedAt, form_text, text_so_far}, Live.{Writes, form_parts}, Observers.AreTaken, Output.LeavesPrefix, Report.tally_of_cases, Status.{ending_status, results_status, worst_of}, Summary.case_summary, declared.{fault.OutFault.OutFault, live.{LiveForm.LiveForm, LiveWriter.LiveWriter}, results.{CampaignEnd.CampaignEnd, Finished.Finished}}}, proofs.{Overalls.worst_more, Writing.{appends_both, left_is_prefix, prefix_behind, prefix_longer, so_far_more, whole_text}}}

-- a prefix of what comes up to some test case is one of the whole text
cut_left : (form : LiveForm) (start after : Option (List ℕ)) (fs : List Finished) (ending : CampaignEnd) → AppendsPrefix start after (text_so_far form fs)
    → AppendsPrefix start after (form_text form (record { finished = fs; ending = ending }))
cut_left form start after fs ending left =
    subst (AppendsPrefix start after) (whole_text form fs ending) (prefix_longer start after (text_so_far form fs) ((form_parts form).2 (tally_of_cases fs) ending) left)

-- what is before the test cases was not written whole
pub opening_left : (form : LiveForm) (start after : Option (List ℕ)) (fault : OutFault) (ending : CampaignEnd) → LeavesPrefix start after (form_parts form).0 fault
    → AppendsPrefix start after (form_text form (record { finished = []; ending = ending }))
opening_left form start after fault ending left =
    cut_left form start after [] ending
    (subst (AppendsPrefix start after) (sym (append-nil (form_parts form).0)) (left_is_prefix start after (form_parts form).0 fault left))

-- what a fault leaves is a prefix, whichever it is
some_left : (before after : Option (List ℕ)) (text : List ℕ) (fault : Option OutFault) → IsSomeAnd fault (LeavesPrefix before after text) → AppendsPrefix before after text
some_left before after text None left = absurd left
some_left before after text (Some fault) left = left_is_prefix before after text fault left

module _ {W : Type 0} (contents : W → Option (List ℕ)) where
  -- the state of a writer that held `start`, when these test cases were written
  pub record IsAt (form : LiveForm) (start : Option (List ℕ)) (fs : List Finished) (l : LiveWriter W) : Type 0 where
    pub form_is : l.form ≡ form
    pub out : Appends start (contents l.writer.now) (text_so_far form fs)
    pub tally : l.tally ≡ tally_of_cases fs
    pub worst_is : l.worst ≡ worst_of (map case_summary fs)

  -- where it is when only what is before the test cases was written
  pub begun : (form : LiveForm) (start : Option (List ℕ)) (l : LiveWriter W) → l.form ≡ form → Appends start (contents l.writer.now) (form_parts form).0
      → l.tally ≡ tally_of_cases [] → l.worst ≡ Verdict.None → IsAt form start [] l
  begun form start l same out tally worst = record {
    form_is = same;
    out = subst (Appends start (contents l.writer.now)) (sym (append-nil (form_parts form).0)) out;
    tally = tally;
    worst_is = worst;
  }

  one_more : (form : LiveForm) (start : Option (List ℕ)) (fs : List Finished) (f : Finished) (before after : LiveWriter W)
      → IsAt form start fs before → Writes contents before f after true → IsAt form start (fs ++ f ∷ []) after
  one_more form start fs f before after at one = record {
    form_is = one.0 ∙ at.form_is;
    out = subst (Appends start (contents after.writer.now)) (so_far_more form fs f)
        (appends_both start (contents before.writer.now) (contents after.writer.now) (text_so_far form fs) ((form_parts form).1 f) at.out (subst (λ k. Appends (contents before.writer.now) (contents after.writer.now) ((form_parts k).1 f)) at.form_is one.1));
    tally = one.2 fs at.tally;
    worst_is = one.3 ∙ ap (λ w. worse w f.report.verdict) at.worst_is ∙ worst_more fs f;
  }

  -- what a test case does to an observer that writes live
  abbrev pub Takes : LiveWriter W → Finished → LiveWriter W → Bool → Type 0
  Takes before f after goes_on = Writes contents before f after goes_on × (after.writer.ghost_name ≡ before.writer.ghost_name)

  -- the test cases that were taken were written
  pub all_at : (form : LiveForm) (start : Option (List ℕ)) (done fs : List Finished) (before after : LiveWriter W)
      → IsAt form start done before → AreTaken Takes fs before after → IsAt form start (done ++ fs) after × (after.writer.ghost_name ≡ before.writer.ghost_name)
  all_at form start done [] before after at same = (
    subst (λ l. IsAt form start l after) (sym (append-nil done)) (subst (IsAt form start done) (sym same) at),
    ap (λ (l : LiveWriter W). l.writer.ghost_name) same,
  )
  all_at form start done (f ∷ fs) before after at taken =
      let rest = all_at form start (done ++ f ∷ []) fs taken.0 after (one_more form start done f before taken.0 at taken.1.0) taken.2 in
      (subst (λ l. IsAt form start l after) (append_assoc done (f ∷ []) fs) rest.0, rest.1 ∙ taken.1.1)

  -- if the writer ended the campaign, a prefix of the text is out
  pub ended_at : (form : LiveForm) (start : Option (List ℕ)) (fs : List Finished) (before after : LiveWriter W)
      → IsAt form start [] before → IsEndedAt Takes fs before after
      → AppendsPrefix start (contents after.writer.now) (text_so_far form fs) × (after.writer.ghost_name ≡ before.writer.ghost_name)
  ended_at form start fs before after at ended =
      let others = all_at form start [] ended.others before ended.between at ended.each in
      let part = some_left (contents ended.between.writer.now) (contents after.writer.now) ((form_parts ended.between.form).1 ended.last) after.fault ended.at_last.0.3 in
      let behind = prefix_behind start (contents ended.between.writer.now) (contents after.writer.now) (text_so_far form ended.others) ((form_parts form).1 ended.last)
      others.0.out (subst (λ k. AppendsPrefix (contents ended.between.writer.now) (contents after.writer.now) ((form_parts k).1 ended.last)) others.0.form_is part) in (
        subst (λ l. AppendsPrefix start (contents after.writer.now) (text_so_far form l)) (sym ended.all)
            (subst (AppendsPrefix start (contents after.writer.now)) (so_far_more form ended.others ended.last) behind),
        ended.at_last.1 ∙ others.1,
      )

  module _ (form : LiveForm) (start : Option (List ℕ)) (before after : LiveWriter W) (first : IsAt form start [] before) (finished : List Finished) where
    -- if it ended the campaign, a prefix of the text of the results is out
    pub case_left : (ending : CampaignEnd) → IsEndedAt Takes finished before after
        → AppendsPrefix start (contents after.writer.now) (form_text form (record { finished = finished; ending = ending }))
    case_left ending ended = cut_left form start (contents after.writer.now) finished ending (ended_at form start finished before after first ended).0

    module _ (ending : CampaignEnd) (taken : AreTaken Takes finished before after) where
      last : IsAt form start finished after
      last = (all_at form start [] finished before after first taken).0

      -- if it let the campaign continue, the text of the results is out with what follows the test cases
      pub all_written : (now : Option (List ℕ)) → Appends (contents after.writer.now) now ((form_parts after.form).2 after.tally ending)
          → Appends start now (form_text form (record { finished = finished; ending = ending }))
      all_written now out =
          subst (Appends start now) (whole_text form finished ending)
          (appends_both start (contents after.writer.now) now (text_so_far form finished) ((form_parts form).2 (tally_of_cases finished) ending) last.out
          (subst (λ t. Appends (contents after.writer.now) now ((form_parts form).2 t ending)) last.tally
          (subst (λ k. Appends (contents after.writer.now) now ((form_parts k).2 after.tally ending)) last.form_is out)))

      -- and a prefix of it if that was not written whole
      pub closing_left : (now : Option (List ℕ)) (fault : OutFault) → LeavesPrefix (contents after.writer.now) now ((form_parts after.form).2 after.tally ending) fault
          → AppendsPrefix start now (form_text form (record { finished = finished; ending = ending }))
      closing_left now fault left =
          subst (AppendsPrefix start now) (whole_text form finished ending)
          (prefix_behind start (contents after.writer.now) now (text_so_far form finished) ((form_parts form).2 (tally_of_cases finished) ending) last.out
          (left_is_prefix (contents after.writer.now) now ((form_parts form).2 (tally_of_cases finished) ending) fault
          (subst (λ t. LeavesPrefix (contents after.writer.now) now ((form_parts form).2 t ending) fault) last.tally
          (subst (λ k. LeavesPrefix (contents after.writer.now) now ((form_parts k).2 after.tally ending) fault) last.form_is left))))

      -- and the status is that of the results
      pub status_at : ending_status ending after.worst ≡ results_status (record { finished = finished; ending = ending })
      status_at = ap (ending_status ending) last.worst_is
