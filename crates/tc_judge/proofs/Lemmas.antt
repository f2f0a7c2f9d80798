-- The lemmas of this crate that others cite.
use Rattle.std.{proofs.{Common.{ℕ, ◌≡◌, ◌≢◌, ◌≤◌, ◌+◌, ◌-◌, ◌^◌, ◌∙◌, true, false, None, Some, Option, List, [], ◌∷◌, ◌++◌, length, reverse, if◌then◌else◌, ap, ap₂, sym, subst, append_assoc, arith, Bool, refl, suc, All}, Math.Nat.min-eq_left, lemmas.{List.{Concat.flat_map-append, append-nil, length-append, reverse-append, Elements.{All-head, All-tail, All-cons, All-nil}}, Bool.false≢true}}, specs.{Prelude.{is_some, min}, List.{flat_map, AllZip}}}
use Rattle.tc_rules.specs.Prelude.{Entry, Reply, answer, IsLegal, IsReplyOf, Kept, StandsFor, TakesIn}
use Rattle.tc_blocks.specs.{declared.{line.Line.Line, block.Block.Block}, Prelude.{entries_of, entry_in, LinesAreLegal}}
use Rattle.tc_judge.specs.{Inside.{IsOtherReply, IsPlayedTo, each}, declared.playing.Difference.Difference, Check.{Checks, IsIllegalLine, IsLegalBlock, legal_line}}
use Rattle.tc_entry.specs.declared.limits.TheConstants.{BEHAVIOURS}
use Rattle.tc_exec.specs.declared.test_case.Case.{Case}
use Rattle.tc_reader.specs.Prelude.{CampaignView, IsCase, Word}
use Rattle.tc_step.specs.Prelude.{ScriptView}
use Rattle.tc_answer.specs.{Prelude.{CaseView, scripts_of}, Inside.IsCaseOf, declared.reply.Answer.Answer}

-- ---- blocks, played line by line

-- the entries of lines and of those after them
entries-append : (before behind : List Line) → entries_of (before ++ behind) ≡ entries_of before ++ entries_of behind
entries-append before behind = flat_map-append entry_in before behind

entries_more : (lines : List Line) (e : Entry) → entries_of (lines ++ Line.Entry e ∷ []) ≡ entries_of lines ++ e ∷ []
entries_more lines e = entries-append lines (Line.Entry e ∷ [])

-- the entries of lines and of one more
pub entries_last : (lines : List Line) (l : Line) → entries_of (lines ++ l ∷ []) ≡ entries_of lines ++ entry_in l
entries_last lines l = entries-append lines (l ∷ []) ∙ ap (λ (es : List Entry). entries_of lines ++ es) (append-nil (entry_in l))

-- one more entry is the newest one
newest : (lines : List Line) (e : Entry) → reverse (entries_of (lines ++ Line.Entry e ∷ [])) ≡ e ∷ reverse (entries_of lines)
newest lines e = ap reverse (entries_more lines e) ∙ reverse-append (entries_of lines) (e ∷ [])

-- no line has two entries
one_entry : (l : Line) → length (entry_in l) ≤ 1
one_entry (Line.Entry e) = omega arith
one_entry _ = omega arith

few_entries : (lines : List Line) → length (entries_of lines) ≤ length lines
few_entries [] = omega arith
few_entries (l ∷ ls) = let more = few_entries ls in let one = one_entry l in omega (arith, more, one, length-append (entry_in l) (entries_of ls))

-- the first difference stays the first
other_stays : (n first : ℕ) (lines : List Line) (l : Line) (line : ℕ) (given reply : Reply) → IsOtherReply n first lines line given reply → IsOtherReply n first (lines ++ l ∷ []) line given reply
other_stays n first lines l line given reply so = record {
  before = so.before;
  behind = so.behind ++ l ∷ [];
  entry = so.entry;
  place = ap (λ x. x ++ l ∷ []) so.place ∙ append_assoc so.before (Line.Entry so.entry ∷ so.behind) (l ∷ []);
  legal = so.legal;
  answers = so.answers;
  other = so.other;
  given_is = so.given_is;
  line_is = so.line_is;
}

-- an entry after one with another reply
pub passed_played : (n first : ℕ) (lines : List Line) (l : Line) (k : Kept) (entries : ℕ) (o : Option Difference) → is_some o ≡ true → IsPlayedTo n first lines k entries o → IsPlayedTo n first (lines ++ l ∷ []) k entries o
passed_played n first lines l k entries None some so = absurd cc
passed_played n first lines l k entries (Some d) some so = other_stays n first lines l d.line d.given d.reply so

-- a line that is no entry
pub no_entry : (l : Line) → ((e : Entry) → l ≢ Line.Entry e) → entry_in l ≡ []
no_entry (Line.Entry e) other = absurd (other e refl)
no_entry _ other = refl

pub note_played : (n first : ℕ) (lines : List Line) (l : Line) (k : Kept) (entries : ℕ) (o : Option Difference) → entry_in l ≡ [] → IsPlayedTo n first lines k entries o → IsPlayedTo n first (lines ++ l ∷ []) k entries o
note_played n first lines l k entries None none so =
    let same = entries_last lines l ∙ (ap (λ (es : List Entry). entries_of lines ++ es) none ∙ append-nil (entries_of lines)) in
    subst (λ (es : List Entry). (k.behaviours ≡ n) × StandsFor k (reverse es) × IsLegal n (reverse es) × (entries ≡ length es)) (sym same) so
note_played n first lines l k entries (Some d) none so = other_stays n first lines l d.line d.given d.reply so

-- an entry with the table's reply; there are fewer entries than lines, so their number is exact
pub entry_played : (n first : ℕ) (lines : List Line) (e : Entry) (k k' : Kept) (entries entries' line : ℕ) (o : Option Difference) → is_some o ≡ false → IsPlayedTo n first lines k entries o → IsReplyOf k e.caller e.op e.reply → TakesIn k e k' → k'.behaviours ≡ k.behaviours
    → entries' ≡ min (entries + 1) (2 ^ 64 - 1) → line ≡ first + length lines + 1 → line ≤ 2 ^ 64 - 1 → IsPlayedTo n first (lines ++ Line.Entry e ∷ []) k' entries' o
entry_played n first lines e k k' entries entries' line (Some d) none so replied takes same more here fits = absurd cc
entry_played n first lines e k k' entries entries' line None none so replied takes same more here fits =
    let past = reverse (entries_of lines) in
    let legal : IsLegal n (e ∷ past) = (replied past so.1 ∙ ap (λ m. answer m past e.caller.0 e.op) so.0, so.2) in
    let count = so.3 in
    let few = few_entries lines in
    let below : entries + 1 ≤ 2 ^ 64 - 1 = omega (arith, count, few, here, fits) in
    let exact : min (entries + 1) (2 ^ 64 - 1) ≡ entries + 1 = min-eq_left below in
    let longer = ap length (entries_more lines e) in
    let counted : entries + 1 ≡ length (entries_of (lines ++ Line.Entry e ∷ [])) = omega (arith, count, longer, length-append (entries_of lines) (e ∷ [])) in (
      same ∙ so.0,
      subst (StandsFor k') (sym (newest lines e)) (takes past so.1),
      subst (IsLegal n) (sym (newest lines e)) legal,
      more ∙ (exact ∙ counted),
    )

-- ---- a legal block has no first difference

legal_before : (n : ℕ) (later past : List Entry) → IsLegal n (later ++ past) → IsLegal n past
legal_before n [] past legal = legal
legal_before n (e ∷ later) past legal = legal_before n later past legal.1

parted : (before behind : List Line) (e : Entry) → reverse (entries_of (before ++ Line.Entry e ∷ behind)) ≡ reverse (entries_of behind) ++ e ∷ reverse (entries_of before)
parted before behind e =
    ap reverse (entries-append before (Line.Entry e ∷ behind))
    ∙ (reverse-append (entries_of before) (e ∷ entries_of behind)
    ∙ (ap (λ (l : List Entry). l ++ reverse (entries_of before)) (reverse-append (e ∷ []) (entries_of behind))
    ∙ append_assoc (reverse (entries_of behind)) (e ∷ []) (reverse (entries_of before))))

pub no_difference : (n : ℕ) (lines before behind : List Line) (e : Entry) (reply : Reply) → LinesAreLegal n lines → lines ≡ before ++ Line.Entry e ∷ behind → reply ≡ answer n (reverse (entries_of before)) e.caller.0 e.op → e.reply ≢ reply → ⊥
no_difference n lines before behind e reply legal place answers other =
    let whole : IsLegal n (reverse (entries_of behind) ++ e ∷ reverse (entries_of before)) =
    subst (IsLegal n) (parted before behind e) (subst (LinesAreLegal n) place legal) in
    other ((legal_before n (reverse (entries_of behind)) (e ∷ reverse (entries_of before)) whole).0 ∙ sym answers)

-- ---- blocks that are legal are found legal

no_other : (b : Block) (line : List ℕ) → IsLegalBlock b → IsIllegalLine b line → ⊥
no_other b line right (IsIllegalLine.other_reply before behind e reply place legal answers other said) =
    no_difference b.header.behaviours b.lines before behind e reply right.replies place answers other
no_other b line right (IsIllegalLine.other_verdict ok differs said) = differs right.verdict

-- the line of a block that is found legal
abbrev pub block_line : Block → List ℕ
block_line b = legal_line b.header.name (length (entries_of b.lines)) b.verdict

-- whichever of them are printed, legal blocks are found legal
found_all : (test : Block → Bool) (bs : List Block) (out : List ℕ) (status : ℕ) → All IsLegalBlock bs → Checks test bs out status
    → (out ≡ flat_map (λ b. if test b then block_line b else []) bs) × (status ≡ 0)
found_all test _ _ _ all Checks.none = (refl, refl)
found_all test _ _ _ all (Checks.goes_on b rest out status legal more) =
    let two = found_all test rest out status (All-tail IsLegalBlock b rest all) more in
    (ap (λ l. (if test b then block_line b else []) ++ l) two.0, two.1)
found_all test _ _ _ all (Checks.stops b rest line says) = absurd (no_other b line (All-head IsLegalBlock b rest all) says)

pub only_legal : (bs : List Block) (out : List ℕ) (status : ℕ) → All IsLegalBlock bs → Checks each bs out status → (out ≡ flat_map block_line bs) × (status ≡ 0)
only_legal = found_all each

-- and none of them is found not to be
pub none_illegal : (bs : List Block) (line : List ℕ) → All IsLegalBlock bs → Checks (λ b. false) bs line 3 → ⊥
none_illegal bs line all checks = let none = (found_all (λ b. false) bs line 3 all checks).1 in omega (arith, none)

-- ---- test cases have few behaviours

few_scripts : (bs : List (Word × ScriptView)) → length (scripts_of bs) ≡ length bs
few_scripts [] = refl
few_scripts (b ∷ bs) = ap suc (few_scripts bs)

pub few_jobs : (cases : CampaignView) (ready : List (Case ScriptView)) → AllZip IsCaseOf cases ready → All (λ c. IsCase c.1) cases → All (λ k. length k.jobs.items ≤ BEHAVIOURS) ready
few_jobs [] [] each all = All-nil (λ (k : Case ScriptView). length k.jobs.items ≤ BEHAVIOURS)
few_jobs (c ∷ cs) (k ∷ ks) each all =
    let one : IsCase c.1 = All-head (λ (t : CaseView). IsCase t.1) c cs all in
    let same : length k.jobs.items ≡ length c.1 = ap length each.0.jobs ∙ few_scripts c.1 in
    let few = one.few in
    All-cons (λ (r : Case ScriptView). length r.jobs.items ≤ BEHAVIOURS) k ks (omega (arith, few, same))
    (few_jobs cs ks each.1 (All-tail (λ (t : CaseView). IsCase t.1) c cs all))
few_jobs _ _ each all = absurd each

-- ---- answers, by their parts

-- an answer of these parts
abbrev pub answer_of : List ℕ → List ℕ → ℕ → Answer
answer_of out told status = record { out = out; told = told; status = status }
