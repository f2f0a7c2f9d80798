-- The lines of entries and the last line of a block.
use Rattle.std.proofs.Common.{Bool, Some, None, ◌≢◌, ℕ, ◌≡◌, ◌↔◌, ◌∙◌, List, [], ◌∷◌, ◌++◌, codes, ap, sym, refl, append_assoc, arith, rules, subst, reverse}
use Rattle.tc_rules.specs.Prelude.{Run, Verdict, name_of, Entry, Op, Fault, Reply, fault_name, overall, IsLegal}
use Rattle.tc_text.{specs.{declared.short.ShortOp.ShortOp, Prelude.{lines_of, EndsMove, EndsLine, op_of, move_text, reply_text, IsReply}}, proofs.Lemmas.LinesOf.{NoLf, line_ended, no_lf-append, same_behind, move_plain, number_plain, some_move}}
use Rattle.tc_blocks.{specs.{HistoryBlock.{end_text, entry_text}, Inside.{IsUnnamed, outcome_text}, HistoryText.IsEntry, Laws.{LinesAreLegal, overall_of}, Line.{entries_of, entry_in}, declared.line.Line.Line}, proofs.Lemmas.{Bytes.{BeginsWith, begins_with}, Notes.first_is}}

pub verdict_plain : (v : Verdict) → NoLf (name_of v)
verdict_plain Verdict.None = search rules
verdict_plain _ = search rules

fault_plain : (f : Fault) → NoLf (fault_name f)
fault_plain Fault.NoComponent = search rules
fault_plain _ = search rules

pub reply_plain : (r : Reply) → IsReply r → NoLf (reply_text r)
reply_plain (Reply.Made c) fits = no_lf-append (codes "made ") _ (search rules) (number_plain c.0 fits)
reply_plain (Reply.Local v) fits = verdict_plain v
reply_plain (Reply.Fault f) fits = no_lf-append (codes "error ") (fault_name f) (search rules) (fault_plain f)
reply_plain _ fits = search rules

-- ---- the last line

end_assoc : (v : Verdict) (rest : List ℕ) → end_text v ++ rest ≡ codes "end " ++ (name_of v ++ rest)
end_assoc v rest = refl

pub end_spelled : (text r1 r2 behind : List ℕ) (v : Verdict) → text ≡ codes "end " ++ r1 → r1 ≡ name_of v ++ r2 → EndsLine r2 behind → lines_of text ≡ end_text v ∷ lines_of behind
end_spelled text r1 r2 behind v word named ends =
    ap lines_of (word ∙ (ap (λ l. codes "end " ++ l) named ∙ sym (end_assoc v r2)))
    ∙ line_ended (end_text v) r2 behind (λ e. cc) (no_lf-append (codes "end ") (name_of v) (search rules) (verdict_plain v)) ends

-- the text is that of a last line, and the line's end is after it
pub begins_with_end : (text : List ℕ) (v : Verdict) (others : List (List ℕ)) → lines_of text ≡ end_text v ∷ others → BeginsWith text (λ rest. codes "end " ++ (name_of v ++ rest)) others
begins_with_end text v others lines = begins_with text (end_text v) _ others (end_assoc v) lines

pub behind_end : (xs ys : List ℕ) → codes "end " ++ xs ≡ codes "end " ++ ys → xs ≡ ys
behind_end xs ys e = cc

pub ends_at : (x y behind : List ℕ) → x ≡ y → EndsLine y behind → EndsLine x behind
ends_at x y behind e ends = rw e ends

-- what follows a line's end is one thing
pub same_lines : (rest tail end behind : List ℕ) (others : List (List ℕ)) → rest ≡ tail → EndsLine rest end → EndsLine tail behind → lines_of behind ≡ others → lines_of end ≡ others
same_lines rest tail end behind others same here there lines = ap lines_of (same_behind rest end behind here (ends_at rest tail behind same there)) ∙ lines

-- ---- the line of an entry

entry_assoc : (e : Entry) (rest : List ℕ) → entry_text e ++ rest ≡ move_text e.caller.0 e.op ++ (codes " -> " ++ (reply_text e.reply ++ rest))
entry_assoc e rest = append_assoc (move_text e.caller.0 e.op) (codes " -> " ++ reply_text e.reply) rest

first_part : (xs ys : List ℕ) → xs ++ ys ≡ [] → xs ≡ []
first_part [] ys e = refl
first_part (x ∷ xs) ys e = absurd cc

pub entry_spelled : (text r1 r2 r3 behind : List ℕ) (f : ℕ) (e : Entry) → text ≡ move_text e.caller.0 e.op ++ r1 → r1 ≡ codes " -> " ++ r2 → r2 ≡ reply_text e.reply ++ r3 → EndsLine r3 behind → IsEntry f e →
    lines_of text ≡ entry_text e ∷ lines_of behind
entry_spelled text r1 r2 r3 behind f e moved arrow replied ends fits =
    ap lines_of (moved ∙ (ap (λ l. move_text e.caller.0 e.op ++ l) (arrow ∙ ap (λ l. codes " -> " ++ l) replied) ∙ sym (entry_assoc e r3)))
    ∙ line_ended (entry_text e) r3 behind (λ none. some_move e.caller.0 e.op fits.caller (first_part (move_text e.caller.0 e.op) _ none))
    (no_lf-append (move_text e.caller.0 e.op) _ (move_plain e.caller.0 e.op fits.caller fits.op) (no_lf-append (codes " -> ") (reply_text e.reply) (search rules) (reply_plain e.reply fits.reply))) ends

-- the text is that of an entry, and the line's end is after it
pub begins_with_entry : (text : List ℕ) (e : Entry) (others : List (List ℕ)) → lines_of text ≡ entry_text e ∷ others → BeginsWith text (λ rest. move_text e.caller.0 e.op ++ (codes " -> " ++ (reply_text e.reply ++ rest))) others
begins_with_entry text e others lines = begins_with text (entry_text e) _ others (entry_assoc e) lines

second_is : (x y z : ℕ) (w : ℕ) (xs ys : List ℕ) → x ∷ y ∷ xs ≡ z ∷ w ∷ ys → y ≡ w
second_is x y z w xs ys e = cc

pub ends_arrow : (rest : List ℕ) → EndsMove (codes " -> " ++ rest)
ends_arrow rest = (
  λ b after e. let same : ◌≡◌ {A = ℕ} 32 b = first_is 32 b (45 ∷ 62 ∷ 32 ∷ rest) after e in omega (arith, same),
  λ b after e. let same : ◌≡◌ {A = ℕ} 45 b = second_is 32 45 32 b (62 ∷ 32 ∷ rest) after e in omega (arith, same),
)

pub behind_arrow : (xs ys : List ℕ) → codes " -> " ++ xs ≡ codes " -> " ++ ys → xs ≡ ys
behind_arrow xs ys e = cc

-- ---- what follows a move

outcome_plain : (r : Reply) → IsReply r → NoLf (outcome_text r)
outcome_plain r fits = no_lf-append (codes " -> ") (reply_text r) (search rules) (reply_plain r fits)

pub outcome_spelled : (text r1 r2 behind : List ℕ) (r : Reply) → text ≡ codes " -> " ++ r1 → r1 ≡ reply_text r ++ r2 → EndsLine r2 behind → IsReply r → lines_of text ≡ outcome_text r ∷ lines_of behind
outcome_spelled text r1 r2 behind r arrow replied ends fits =
    ap lines_of (arrow ∙ ap (λ l. codes " -> " ++ l) replied) ∙ line_ended (outcome_text r) r2 behind (λ e. cc) (outcome_plain r fits) ends

-- the text begins with what follows a move, and the line's end is after it
pub begins_with_outcome : (text : List ℕ) (r : Reply) (others : List (List ℕ)) → lines_of text ≡ outcome_text r ∷ others → BeginsWith text (λ rest. codes " -> " ++ (reply_text r ++ rest)) others
begins_with_outcome text r others lines = begins_with text (outcome_text r) _ others (λ rest. refl) lines

-- the text begins with the move of the entry, and the rest of its line is after it
pub record BeginsWithMove (text : List ℕ) (e : Entry) (others : List (List ℕ)) : Type 0 where
  pub rest : List ℕ
  pub parts : text ≡ move_text e.caller.0 e.op ++ rest
  pub ends : EndsMove rest
  pub lines : lines_of rest ≡ outcome_text e.reply ∷ others

pub begins_with_move : (text : List ℕ) (f : ℕ) (e : Entry) (others : List (List ℕ)) → IsEntry f e → lines_of text ≡ entry_text e ∷ others → BeginsWithMove text e others
begins_with_move text f e others fits lines =
    let begins = begins_with_entry text e others lines in
    let behind = reply_text e.reply ++ begins.rest in
    record {
      rest = codes " -> " ++ behind;
      parts = begins.parts;
      ends = ends_arrow behind;
      lines = outcome_spelled (codes " -> " ++ behind) behind begins.rest begins.behind e.reply refl refl begins.ends fits.reply ∙ ap (λ l. outcome_text e.reply ∷ l) begins.lines;
    }

-- a move, and the rest of its line
pub entry_and_outcome : (text rest after : List ℕ) (f : ℕ) (e : Entry) → text ≡ move_text e.caller.0 e.op ++ rest → lines_of rest ≡ outcome_text e.reply ∷ lines_of after → IsEntry f e → lines_of text ≡ entry_text e ∷ lines_of after
entry_and_outcome text rest after f e moved lines fits =
    let begins = begins_with_outcome rest e.reply (lines_of after) lines in
    entry_spelled text rest (reply_text e.reply ++ begins.rest) begins.rest begins.behind f e moved begins.parts refl begins.ends fits ∙ ap (λ l. entry_text e ∷ l) begins.lines

pub same_entry : (run : Run) (op : Op) (reply : Reply) (e : Entry) → ◌≡◌ {A = Run × Op} (run, op) (e.caller, e.op) → reply ≡ e.reply → ◌≡◌ {A = Entry} (record { caller = run; op = op; reply = reply }) e
same_entry run op reply e moved replied =
    let caller : run ≡ e.caller = ap (λ (p : Run × Op). p.0) moved in
    let operation : op ≡ e.op = ap (λ (p : Run × Op). p.1) moved in
    rw (caller, operation, replied) refl

pub same_parts : (run : Run) (op : Op) (reply : Reply) (e : Entry) → run.0 ≡ e.caller.0 → op ≡ e.op → reply ≡ e.reply → ◌≡◌ {A = Entry} (record { caller = run; op = op; reply = reply }) e
same_parts run op reply e caller operation replied = rw (caller, operation, replied) refl

-- a short operation gives no component a name
pub short_unnamed : (s : ShortOp) → IsUnnamed (op_of s)
short_unnamed (ShortOp.Create alive) = tt
short_unnamed _ = tt

pub no_name : (op : Op) → IsUnnamed op → (alive : Bool) (name : List ℕ) → op ≢ Op.Create alive (Some name)
no_name op is alive name e = subst (λ (o : Op). IsUnnamed o) e is

pub unnamed : (op : Op) → ((alive : Bool) (name : List ℕ) → op ≢ Op.Create alive (Some name)) → IsUnnamed op
unnamed (Op.Create alive (Some name)) never = never alive name refl
unnamed (Op.Create alive None) never = tt
unnamed _ never = tt

pub same_entries : (before after : List Line) (l : Line) → entry_in l ≡ [] → entries_of (before ++ l ∷ after) ≡ entries_of (before ++ after)
same_entries [] after l none = ap (λ x. x ++ entries_of after) none
same_entries (x ∷ xs) after l none = ap (λ y. entry_in x ++ y) (same_entries xs after l none)

pub same_legal : (n : ℕ) (before after : List Line) (l : Line) → entry_in l ≡ [] → LinesAreLegal n (before ++ l ∷ after) ↔ LinesAreLegal n (before ++ after)
same_legal n before after l none =
    let same = same_entries before after l none in
    (subst (λ (es : List Entry). IsLegal n (reverse es)) same, subst (λ (es : List Entry). IsLegal n (reverse es)) (sym same))

pub same_overall : (before after : List Line) (l : Line) → entry_in l ≡ [] → overall_of (before ++ l ∷ after) ≡ overall_of (before ++ after)
same_overall before after l none = ap (λ (es : List Entry). overall (reverse es)) (same_entries before after l none)

pub ruleset remark_rules = (same_entries, same_legal, same_overall)
