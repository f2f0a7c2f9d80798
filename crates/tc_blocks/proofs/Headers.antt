-- The first line of a block.
use Rattle.std.{proofs.Common.{ℕ, ◌≡◌, ◌≢◌, ◌∙◌, Bool, true, false, List, [], ◌∷◌, ◌++◌, ap, sym, append_assoc, refl}, specs.Fmt.decimal}
use Rattle.tc_text.{specs.Prelude.{lines_of, EndsLine}, proofs.Lemmas.LinesOf.line_ended}
use Rattle.tc_blocks.{specs.{Block.{header_text, kind_text}, Inside.IsFirst, Text.IsHeader, declared.header.{Header.Header, Kind.Kind}}, proofs.Lemmas.Bytes.{BeginsWith, begins_with, header_quiet, plain_no_lf, quiet_plain}}

header_assoc : (h : Header) (rest : List ℕ) → header_text h ++ rest ≡ kind_text h.kind ++ (h.name ++ (32 ∷ (decimal h.behaviours ++ rest)))
header_assoc h rest =
    append_assoc (kind_text h.kind) (h.name ++ (32 ∷ decimal h.behaviours)) rest
    ∙ ap (λ l. kind_text h.kind ++ l) (append_assoc h.name (32 ∷ decimal h.behaviours) rest)

some_kind : (k : Kind) (rest : List ℕ) → kind_text k ++ rest ≢ []
some_kind Kind.History1 rest = λ e. cc
some_kind _ rest = λ e. cc

pub header_spelled : (text r1 r2 r3 r4 behind : List ℕ) (h : Header) → text ≡ kind_text h.kind ++ r1 → r1 ≡ h.name ++ r2 → r2 ≡ 32 ∷ r3 → r3 ≡ decimal h.behaviours ++ r4 → EndsLine r4 behind → IsHeader h →
    lines_of text ≡ header_text h ∷ lines_of behind
header_spelled text r1 r2 r3 r4 behind h word named space number ends header =
    ap lines_of (word ∙ (ap (λ l. kind_text h.kind ++ l) (named ∙ ap (λ l. h.name ++ l) (space ∙ ap (λ l. 32 ∷ l) number)) ∙ sym (header_assoc h r4)))
    ∙ line_ended (header_text h) r4 behind (some_kind h.kind (h.name ++ (32 ∷ decimal h.behaviours))) (plain_no_lf (header_text h) (quiet_plain (header_text h) (header_quiet h header))) ends

-- the text is that of a header, and a line's end is after it
pub begins_with_header : (text : List ℕ) (h : Header) (others : List (List ℕ)) → lines_of text ≡ header_text h ∷ others → BeginsWith text (λ rest. kind_text h.kind ++ (h.name ++ (32 ∷ (decimal h.behaviours ++ rest)))) others
begins_with_header text h others lines = begins_with text (header_text h) _ others (header_assoc h) lines

pub same_header : (k : Kind) (name : List ℕ) (n : ℕ) (h : Header) → k ≡ h.kind → name ≡ h.name → n ≡ h.behaviours → ◌≡◌ {A = Header} (record { kind = k; name = name; behaviours = n }) h
same_header k name n h kind named number = rw (kind, named, number) refl

-- ---- which first lines a text may have

pub is_first : (only_histories : Bool) (h : Header) → IsHeader h → (only_histories ≡ true → h.kind ≢ Kind.Evidence) → IsFirst only_histories h
is_first false h header may = header
is_first true h header may = (header, may refl)

pub first_header : (only_histories : Bool) (h : Header) → IsFirst only_histories h → IsHeader h
first_header false h first = first
first_header true h first = first.0

pub first_kind : (only_histories : Bool) (h : Header) → IsFirst only_histories h → only_histories ≡ true → h.kind ≢ Kind.Evidence
first_kind false h first only = absurd cc
first_kind true h first only = first.1

pub behind_space : (xs ys : List ℕ) → 32 ∷ xs ≡ 32 ∷ ys → xs ≡ ys
behind_space xs ys e = cc
