-- The next line inside a block: which it is, or that it is none.
use Rattle.std.{proofs.Common.{ℕ, ◌≡◌, ◌∙◌, ◌<◌, ◌^◌, Bool, true, false, Option, None, Some, MatchOption, List, ◌∷◌, length, ap, sym, subst, refl, arith}, specs.Borrow.Bor}
use Rattle.tc_rules.specs.Prelude.{Run, IsName, Entry}
use Rattle.tc_text.specs.Prelude.{lines_of}
use Rattle.tc_blocks.{specs.{HistoryBlock.entry_text, HistoryText.IsEntry, Inside.{ArePlain, IsFound, IsNext, IsNoEntryLine, IsNone, IsNote, IsSaidBy, line_said}, Line.{is_met, line_text, naming_text, said_text}, Sentence.IsSentence, Text.{IsLine, format_of}, declared.{header.Kind.Kind, line.Line.Line}}, proofs.{InsideLines.head_is, Lemmas.Notes.{entry_not_naming, entry_not_said, said_not_naming, sentence_plain}}}

low : (k n : ℕ) → k < n → n < 2 ^ 16 → k < 2 ^ 32
low k n few small = omega (arith, few, small)

-- ---- what a run says

-- reading what a run says shows that the first line is no other such line
abbrev pub IsThatSaid : ℕ → List ℕ → Run → Bool → List ℕ → List ℕ → Type 0
IsThatSaid n text run refused bytes rest = (r : Bool) (k : ℕ) (sentence : List ℕ) (others : List (List ℕ)) → k < n → ArePlain sentence → lines_of text ≡ said_text r k sentence ∷ others →
    (run.0 ≡ k) × (refused ≡ r) × (bytes ≡ sentence) × (lines_of rest ≡ others)

abbrev pub IsNoSaid : ℕ → List ℕ → Type 0
IsNoSaid n text = (r : Bool) (k : ℕ) (sentence : List ℕ) (others : List (List ℕ)) → k < n → ArePlain sentence → lines_of text ≡ said_text r k sentence ∷ others → ⊥

pub said_none : (n : ℕ) (text : List ℕ) → IsNoSaid n text → IsNone (IsSaidBy n) text
said_none n text none (Line.Remark run sentence) others fits lines = none false run.0 sentence others fits.0 (sentence_plain sentence fits.1.plain) lines
said_none n text none (Line.Refused run sentence) others fits lines = none true run.0 sentence others fits.0 (sentence_plain sentence fits.1.plain) lines
said_none n text none _ others fits lines = absurd fits

pub no_sentence : (n : ℕ) (text : List ℕ) (run : Run) (refused : Bool) (bytes rest : List ℕ) → IsThatSaid n text run refused bytes rest → (IsSentence bytes → ⊥) → IsNone (IsSaidBy n) text
no_sentence n text run refused bytes rest only none = said_none_by
  where
    said_none_by : IsNone (IsSaidBy n) text
    said_none_by (Line.Named r name) others fits lines = absurd fits
    said_none_by (Line.Entry e) others fits lines = absurd fits
    said_none_by (Line.Remark r sentence) others fits lines =
        let that = only false r.0 sentence others fits.0 (sentence_plain sentence fits.1.plain) lines in none (subst IsSentence (sym that.2) fits.1)
    said_none_by (Line.Refused r sentence) others fits lines =
        let that = only true r.0 sentence others fits.0 (sentence_plain sentence fits.1.plain) lines in none (subst IsSentence (sym that.2) fits.1)

same_run : (a b : Run) → a.0 ≡ b.0 → a ≡ b
same_run a b e = ap (λ (k : ℕ). make k) e
  where
    make : ℕ → Run
    make k = record { 0 = k }

abbrev remark : Run → List ℕ → Line
remark run sentence = Line.Remark run sentence

abbrev refusal : Run → List ℕ → Line
refusal run sentence = Line.Refused run sentence

pub said_next : (n : ℕ) (text : List ℕ) (run : Run) (refused : Bool) (bytes rest : List ℕ) (l : Line) → lines_of text ≡ said_text refused run.0 bytes ∷ lines_of rest → run.0 < n → length rest < length text → IsThatSaid n text run refused bytes rest →
    l ≡ line_said refused run bytes → IsSentence bytes → IsNext (IsSaidBy n) text l rest
said_next n text run false bytes rest l spelled few less only same is = subst (λ (x : Line). IsNext (IsSaidBy n) text x rest) (sym same) (record { spelled = spelled; fits = (few, is); less = less; only = that })
  where
    that : (m : Line) (others : List (List ℕ)) → IsSaidBy n m → lines_of text ≡ line_text m ∷ others → (Line.Remark run bytes ≡ m) × (lines_of rest ≡ others)
    that (Line.Named r name) others fits lines = absurd fits
    that (Line.Entry e) others fits lines = absurd fits
    that (Line.Remark r sentence) others fits lines =
        let four = only false r.0 sentence others fits.0 (sentence_plain sentence fits.1.plain) lines in
        (ap (λ x. remark x bytes) (same_run run r four.0) ∙ ap (λ x. remark r x) four.2, four.3)
    that (Line.Refused r sentence) others fits lines =
        let four = only true r.0 sentence others fits.0 (sentence_plain sentence fits.1.plain) lines in
        let e = four.1 in absurd cc
said_next n text run true bytes rest l spelled few less only same is = subst (λ (x : Line). IsNext (IsSaidBy n) text x rest) (sym same) (record { spelled = spelled; fits = (few, is); less = less; only = that })
  where
    that : (m : Line) (others : List (List ℕ)) → IsSaidBy n m → lines_of text ≡ line_text m ∷ others → (Line.Refused run bytes ≡ m) × (lines_of rest ≡ others)
    that (Line.Named r name) others fits lines = absurd fits
    that (Line.Entry e) others fits lines = absurd fits
    that (Line.Remark r sentence) others fits lines =
        let four = only false r.0 sentence others fits.0 (sentence_plain sentence fits.1.plain) lines in
        let e = four.1 in absurd cc
    that (Line.Refused r sentence) others fits lines =
        let four = only true r.0 sentence others fits.0 (sentence_plain sentence fits.1.plain) lines in
        (ap (λ x. refusal x bytes) (same_run run r four.0) ∙ ap (λ x. refusal r x) four.2, four.3)

-- ---- a line that is no entry

abbrev pub IsNoNaming : ℕ → List ℕ → Type 0
IsNoNaming n text = (k : ℕ) (name : List ℕ) (others : List (List ℕ)) → k < n → IsName name → lines_of text ≡ naming_text k name ∷ others → ⊥

-- if the first line names no behaviour, only what a run says is left
pub note_of_said : (n : ℕ) (before : List Line) (text : List ℕ) → IsNoNaming n text → (found : Option (Line × Bor (List ℕ))) → IsFound (IsSaidBy n) text found → IsFound (IsNote n before) text found
note_of_said n before text none None is = none_by
  where
    none_by : IsNone (IsNote n before) text
    none_by (Line.Named run name) others fits lines = none run.0 name others fits.1.1 fits.1.2 lines
    none_by (Line.Entry e) others fits lines = absurd fits.0
    none_by (Line.Remark run sentence) others fits lines = is (Line.Remark run sentence) others (fits.1.1, fits.1.2) lines
    none_by (Line.Refused run sentence) others fits lines = is (Line.Refused run sentence) others (fits.1.1, fits.1.2) lines
note_of_said n before text none (Some r) is = record { spelled = is.spelled; fits = fits_by r.0 is.fits; less = is.less; only = only_by }
  where
    fits_by : (l : Line) → IsSaidBy n l → IsNote n before l
    fits_by (Line.Remark run sentence) said = (tt, (refl, said.0, said.1))
    fits_by (Line.Refused run sentence) said = (tt, (refl, said.0, said.1))
    fits_by _ said = absurd said

    only_by : (m : Line) (others : List (List ℕ)) → IsNote n before m → lines_of text ≡ line_text m ∷ others → (r.0 ≡ m) × (lines_of r.1.now ≡ others)
    only_by (Line.Named run name) others fits lines = absurd (none run.0 name others fits.1.1 fits.1.2 lines)
    only_by (Line.Entry e) others fits lines = absurd fits.0
    only_by (Line.Remark run sentence) others fits lines = is.only (Line.Remark run sentence) others (fits.1.1, fits.1.2) lines
    only_by (Line.Refused run sentence) others fits lines = is.only (Line.Refused run sentence) others (fits.1.1, fits.1.2) lines

-- reading a name shows that the first line is no other name
abbrev pub IsThatNaming : ℕ → List ℕ → Run × List ℕ → List ℕ → Type 0
IsThatNaming n text p rest = (k : ℕ) (name : List ℕ) (others : List (List ℕ)) → k < n → IsName name → lines_of text ≡ naming_text k name ∷ others → (p ≡ (record { 0 = k }, name)) × (lines_of rest ≡ others)

-- what a run says is no name
never_said : (n : ℕ) (text : List ℕ) (p : Run × List ℕ) (rest : List ℕ) → n < 2 ^ 16 → lines_of text ≡ naming_text p.0.0 p.1 ∷ lines_of rest → (refused : Bool) (k : ℕ) (sentence : List ℕ) (others : List (List ℕ)) → k < n →
    lines_of text ≡ said_text refused k sentence ∷ others → ⊥
never_said n text p rest small spelled refused k sentence others few lines =
    said_not_naming refused k sentence p.0.0 p.1 (low k n few small) (head_is (said_text refused k sentence) (naming_text p.0.0 p.1) others (lines_of rest) (sym lines ∙ spelled))

other_met : (a b : Bool) → a ≡ true → b ≡ false → a ≡ b → ⊥
other_met true b met new same = let e = same ∙ new in cc
other_met false b met new same = absurd cc

-- the name of a behaviour that comes too late
late_naming : (n : ℕ) (before : List Line) (text : List ℕ) (p : Run × List ℕ) (rest : List ℕ) → n < 2 ^ 16 → lines_of text ≡ naming_text p.0.0 p.1 ∷ lines_of rest → IsThatNaming n text p rest → is_met p.0.0 before ≡ true →
    IsNone (IsNote n before) text
late_naming n before text p rest small spelled only met = none_by
  where
    none_by : IsNone (IsNote n before) text
    none_by (Line.Named r name) others fits lines =
        let two = only r.0 name others fits.1.1 fits.1.2 lines in
        other_met (is_met p.0.0 before) (is_met r.0 before) met fits.1.3 (ap (λ (x : Run × List ℕ). is_met x.0.0 before) two.0)
    none_by (Line.Entry e) others fits lines = absurd fits.0
    none_by (Line.Remark r sentence) others fits lines = never_said n text p rest small spelled false r.0 sentence others fits.1.1 lines
    none_by (Line.Refused r sentence) others fits lines = never_said n text p rest small spelled true r.0 sentence others fits.1.1 lines

abbrev naming : Run × List ℕ → Line
naming p = Line.Named p.0 p.1

named_next : (n : ℕ) (before : List Line) (text : List ℕ) (p : Run × List ℕ) (rest : List ℕ) → n < 2 ^ 16 → lines_of text ≡ naming_text p.0.0 p.1 ∷ lines_of rest → (p.0.0 < n) × IsName p.1 → length rest < length text → IsThatNaming n text p rest →
    is_met p.0.0 before ≡ false → IsNext (IsNote n before) text (Line.Named p.0 p.1) rest
named_next n before text p rest small spelled fits less only new =
    record { spelled = spelled; fits = (tt, (refl, fits.0, fits.1, new)); less = less; only = that }
  where
    that : (m : Line) (others : List (List ℕ)) → IsNote n before m → lines_of text ≡ line_text m ∷ others → (Line.Named p.0 p.1 ≡ m) × (lines_of rest ≡ others)
    that (Line.Named r name) others is lines = let two = only r.0 name others is.1.1 is.1.2 lines in (ap naming two.0, two.1)
    that (Line.Entry e) others is lines = absurd is.0
    that (Line.Remark r sentence) others is lines = absurd (never_said n text p rest small spelled false r.0 sentence others is.1.1 lines)
    that (Line.Refused r sentence) others is lines = absurd (never_said n text p rest small spelled true r.0 sentence others is.1.1 lines)

-- what is made of a name: a line, unless it comes too late
pub note_of_naming : (n : ℕ) (before : List Line) (text : List ℕ) (p : Run × List ℕ) (rest : List ℕ) → n < 2 ^ 16 → lines_of text ≡ naming_text p.0.0 p.1 ∷ lines_of rest → (p.0.0 < n) × IsName p.1 → length rest < length text → IsThatNaming n text p rest →
    (found : Option (Line × Bor (List ℕ))) → MatchOption found (is_met p.0.0 before ≡ true) (λ r. (is_met p.0.0 before ≡ false) × (r.0 ≡ Line.Named p.0 p.1) × (r.1.now ≡ rest)) → IsFound (IsNote n before) text found
note_of_naming n before text p rest small spelled fits less only None met = late_naming n before text p rest small spelled only met
note_of_naming n before text p rest small spelled fits less only (Some r) is =
    subst (λ (l : Line). IsNext (IsNote n before) text l r.1.now) (sym is.1)
    (subst (λ (x : List ℕ). IsNext (IsNote n before) text (Line.Named p.0 p.1) x) (sym is.2) (named_next n before text p rest small spelled fits less only is.0))

-- ---- any line

abbrev pub IsThatEntry : ℕ → List ℕ → Entry → List ℕ → Type 0
IsThatEntry f text e rest = (t : Entry) (others : List (List ℕ)) → IsEntry f t → lines_of text ≡ entry_text t ∷ others → (e ≡ t) × (lines_of rest ≡ others)

abbrev entry : Entry → Line
entry e = Line.Entry e

pub entry_next : (kind : Kind) (n : ℕ) (before : List Line) (text : List ℕ) (e : Entry) (rest : List ℕ) → n < 2 ^ 16 → lines_of text ≡ entry_text e ∷ lines_of rest → IsEntry (format_of kind) e → length rest < length text →
    IsThatEntry (format_of kind) text e rest → IsNext (IsLine kind n before) text (Line.Entry e) rest
entry_next kind n before text e rest small spelled is less only = record { spelled = spelled; fits = is; less = less; only = that }
  where
    that : (m : Line) (others : List (List ℕ)) → IsLine kind n before m → lines_of text ≡ line_text m ∷ others → (Line.Entry e ≡ m) × (lines_of rest ≡ others)
    that (Line.Named run name) others fits lines =
        absurd (entry_not_naming (format_of kind) e run.0 name is (head_is (entry_text e) (naming_text run.0 name) (lines_of rest) others (sym spelled ∙ lines)))
    that (Line.Entry t) others fits lines = let two = only t others fits lines in (ap entry two.0, two.1)
    that (Line.Remark run sentence) others fits lines =
        absurd (entry_not_said (format_of kind) e false run.0 sentence is (low run.0 n fits.1 small) (head_is (entry_text e) (said_text false run.0 sentence) (lines_of rest) others (sym spelled ∙ lines)))
    that (Line.Refused run sentence) others fits lines =
        absurd (entry_not_said (format_of kind) e true run.0 sentence is (low run.0 n fits.1 small) (head_is (entry_text e) (said_text true run.0 sentence) (lines_of rest) others (sym spelled ∙ lines)))

-- if the first line is no entry, only another line of evidence is left
pub line_of_note : (n : ℕ) (before : List Line) (text : List ℕ) → IsNoEntryLine 2 text → (found : Option (Line × Bor (List ℕ))) → IsFound (IsNote n before) text found → IsFound (IsLine Kind.Evidence n before) text found
line_of_note n before text none None is = none_by
  where
    none_by : IsNone (IsLine Kind.Evidence n before) text
    none_by (Line.Named run name) others fits lines = is (Line.Named run name) others (tt, fits) lines
    none_by (Line.Entry e) others fits lines = none e others fits lines
    none_by (Line.Remark run sentence) others fits lines = is (Line.Remark run sentence) others (tt, fits) lines
    none_by (Line.Refused run sentence) others fits lines = is (Line.Refused run sentence) others (tt, fits) lines
line_of_note n before text none (Some r) is = record { spelled = is.spelled; fits = is.fits.1; less = is.less; only = only_by }
  where
    only_by : (m : Line) (others : List (List ℕ)) → IsLine Kind.Evidence n before m → lines_of text ≡ line_text m ∷ others → (r.0 ≡ m) × (lines_of r.1.now ≡ others)
    only_by (Line.Named run name) others fits lines = is.only (Line.Named run name) others (tt, fits) lines
    only_by (Line.Entry e) others fits lines = absurd (none e others fits lines)
    only_by (Line.Remark run sentence) others fits lines = is.only (Line.Remark run sentence) others (tt, fits) lines
    only_by (Line.Refused run sentence) others fits lines = is.only (Line.Refused run sentence) others (tt, fits) lines
