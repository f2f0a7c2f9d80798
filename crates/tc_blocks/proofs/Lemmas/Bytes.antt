-- The bytes of evidence.
use Rattle.std.{proofs.{Common.{ℕ, ◌≡◌, ◌∙◌, ◌<◌, ◌^◌, ◌+◌, ◌==◌, ◌&&◌, ◌||◌, Bool, true, false, if◌then◌else◌, All, IsTrue, Some, None, List, [], ◌∷◌, ◌++◌, codes, length, map, refl, sym, subst, arith}, lemmas.{Bool.Decides.nat_tests, List.{Elements.{All-head, All-tail}, Folds.list_all-append}}}, specs.{Char.is_ascii_digit, Cmp.Derive.both_true, Fmt.decimal, List.{AllByRecursion, list_all, onto_first}, Str.all_ascii_digits}}
use Rattle.tc_rules.specs.Prelude.{Verdict, name_of, given, IsBehaviours, IsName, is_name_byte, fault_name, Comp, Entry, Group, Target, Op, Fault, Reply}
use Rattle.tc_text.{specs.Prelude.{lines_of, is_plain, AreComps, EndsLine, IsGroup, IsOp, IsReply, IsTarget, args_text, group_text, move_text, op_text, reply_text, start_text, target_text}, proofs.Lemmas.{Digits.{both, spelled_digits}, LinesOf.{NoLf, first_line}}}
use Rattle.tc_blocks.specs.{Block.{header_text, kind_text}, HistoryBlock.{end_text, entry_text}, HistoryText.IsEntry, Inside.{all_lines, is_text_byte, mark_text}, Laws.is_quiet_byte, Line.{line_text, naming_text, said_text}, Text.{AreBlocks, AreEvidence, AreLines, IsHeader, IsLine, block_lines, format_of}, declared.{block.Block.Block, header.{Header.Header, Kind.Kind}, line.Line.Line}}
use Rattle.tc_entry.proofs.Lemmas.Names.{name_parts}

abbrev pub AreQuiet : List ℕ → Type 0
AreQuiet bs = list_all is_quiet_byte bs ≡ true

-- bytes from 32 to 126
abbrev pub AreAllPlain : List ℕ → Type 0
AreAllPlain bs = list_all is_plain bs ≡ true

from_both : (a b : Bool) → a ≡ true → b ≡ true → (a && b) ≡ true
from_both a b e f = both_true e f

quiet-append : (xs ys : List ℕ) → AreQuiet xs → AreQuiet ys → AreQuiet (xs ++ ys)
quiet-append xs ys these others = list_all-append is_quiet_byte xs ys ∙ from_both (list_all is_quiet_byte xs) (list_all is_quiet_byte ys) these others

-- ---- numbers and names

digit_quiet : (b : ℕ) → is_ascii_digit b ≡ true → is_quiet_byte b ≡ true
digit_quiet b digit = grind (arith, nat_tests)

digits_quiet : (ds : List ℕ) → all_ascii_digits ds ≡ true → AreQuiet ds
digits_quiet [] all = refl
digits_quiet (d ∷ ds) all =
    let two = both (is_ascii_digit d) (all_ascii_digits ds) all in
    from_both (is_quiet_byte d) (list_all is_quiet_byte ds) (digit_quiet d two.0) (digits_quiet ds two.1)

pub number_quiet : (n : ℕ) → n < 2 ^ 32 → AreQuiet (decimal n)
number_quiet n fits = digits_quiet (decimal n) (spelled_digits n fits).0

name_byte_quiet : (b : ℕ) → is_name_byte b ≡ true → is_quiet_byte b ≡ true
name_byte_quiet b allowed = grind (arith, nat_tests)

name_bytes_quiet : (bs : List ℕ) → All (λ b. IsTrue (is_name_byte b)) bs → AreQuiet bs
name_bytes_quiet [] all = refl
name_bytes_quiet (b ∷ bs) all =
    from_both (is_quiet_byte b) (list_all is_quiet_byte bs) (name_byte_quiet b (All-head (λ x. IsTrue (is_name_byte x)) b bs all))
    (name_bytes_quiet bs (All-tail (λ x. IsTrue (is_name_byte x)) b bs all))

pub name_quiet : (name : List ℕ) → IsName name → AreQuiet name
name_quiet name is = name_bytes_quiet name (name_parts name is).allowed

-- ---- the parts of an entry

group_quiet : (g : Group) → IsGroup g → AreQuiet (group_text g)
group_quiet (Group.One c) fits = number_quiet c.0 fits
group_quiet Group.All fits = refl

target_quiet : (t : Target) → IsTarget t → AreQuiet (target_text t)
target_quiet (Target.One c) fits = number_quiet c.0 fits
target_quiet _ fits = refl

args_quiet : (cs : List Comp) → AreComps cs → AreQuiet (args_text cs)
args_quiet [] fits = refl
args_quiet (c ∷ cs) fits = quiet-append (codes " ") (decimal c.0 ++ args_text cs) refl (quiet-append (decimal c.0) (args_text cs) (number_quiet c.0 fits.0) (args_quiet cs fits.1))

verdict_quiet : (v : Verdict) → AreQuiet (name_of v)
verdict_quiet Verdict.None = refl
verdict_quiet _ = refl

op_quiet : (op : Op) → IsOp op → AreQuiet (op_text op)
op_quiet (Op.Create false None) fits = refl
op_quiet (Op.Create true None) fits = refl
op_quiet (Op.Create false (Some name)) fits = quiet-append (codes "create named ") name refl (name_quiet name fits)
op_quiet (Op.Create true (Some name)) fits = quiet-append (codes "create alive named ") name refl (name_quiet name fits)
op_quiet (Op.Start c run args) fits =
    quiet-append (codes "start ") (start_text c run args) refl
    (quiet-append (decimal c.0) (codes " " ++ (decimal run.0 ++ args_text args)) (number_quiet c.0 fits.0)
    (quiet-append (codes " ") (decimal run.0 ++ args_text args) refl
    (quiet-append (decimal run.0) (args_text args) (number_quiet run.0 (let low = fits.1 in omega (arith, low))) (args_quiet args fits.3))))
op_quiet (Op.Stop g) fits = quiet-append (codes "stop ") (group_text g) refl (group_quiet g fits)
op_quiet (Op.Kill g) fits = quiet-append (codes "kill ") (group_text g) refl (group_quiet g fits)
op_quiet (Op.Running t) fits = quiet-append (codes "running ") (target_text t) refl (target_quiet t fits)
op_quiet (Op.Alive t) fits = quiet-append (codes "alive ") (target_text t) refl (target_quiet t fits)
op_quiet (Op.Done t) fits = quiet-append (codes "done ") (target_text t) refl (target_quiet t fits)
op_quiet (Op.Killed t) fits = quiet-append (codes "killed ") (target_text t) refl (target_quiet t fits)
op_quiet (Op.Wait false t) fits = quiet-append (codes "wait done ") (target_text t) refl (target_quiet t fits)
op_quiet (Op.Wait true t) fits = quiet-append (codes "wait killed ") (target_text t) refl (target_quiet t fits)
op_quiet (Op.Wake false t) fits = quiet-append (codes "wake done ") (target_text t) refl (target_quiet t fits)
op_quiet (Op.Wake true t) fits = quiet-append (codes "wake killed ") (target_text t) refl (target_quiet t fits)
op_quiet (Op.SetVerdict v) fits = quiet-append (codes "setverdict ") (name_of (given v)) refl (verdict_quiet (given v))
op_quiet _ fits = refl

move_quiet : (run : ℕ) (op : Op) → run < 2 ^ 16 → IsOp op → AreQuiet (move_text run op)
move_quiet run op low fits =
    quiet-append (decimal run) (codes " " ++ op_text op) (number_quiet run (omega (arith, low)))
    (quiet-append (codes " ") (op_text op) refl (op_quiet op fits))

fault_quiet : (f : Fault) → AreQuiet (fault_name f)
fault_quiet Fault.NoComponent = refl
fault_quiet _ = refl

reply_quiet : (r : Reply) → IsReply r → AreQuiet (reply_text r)
reply_quiet (Reply.Made c) fits = quiet-append (codes "made ") (decimal c.0) refl (number_quiet c.0 fits)
reply_quiet (Reply.Local v) fits = verdict_quiet v
reply_quiet (Reply.Fault f) fits = quiet-append (codes "error ") (fault_name f) refl (fault_quiet f)
reply_quiet (Reply.Answer true) fits = refl
reply_quiet (Reply.Answer false) fits = refl
reply_quiet _ fits = refl

-- ---- the lines of a block

pub entry_quiet : (f : ℕ) (e : Entry) → IsEntry f e → AreQuiet (entry_text e)
entry_quiet f e fits =
    quiet-append (move_text e.caller.0 e.op) (codes " -> " ++ reply_text e.reply) (move_quiet e.caller.0 e.op fits.caller fits.op)
    (quiet-append (codes " -> ") (reply_text e.reply) refl (reply_quiet e.reply fits.reply))

pub end_quiet : (v : Verdict) → AreQuiet (end_text v)
end_quiet v = quiet-append (codes "end ") (name_of v) refl (verdict_quiet v)

-- ---- the first line, and the names of behaviours

kind_quiet : (k : Kind) → AreQuiet (kind_text k)
kind_quiet Kind.History1 = refl
kind_quiet _ = refl

pub header_quiet : (h : Header) → IsHeader h → AreQuiet (header_text h)
header_quiet h header =
    quiet-append (kind_text h.kind) (h.name ++ (codes " " ++ decimal h.behaviours)) (kind_quiet h.kind)
    (quiet-append h.name (codes " " ++ decimal h.behaviours) (name_quiet h.name header.name_is)
    (quiet-append (codes " ") (decimal h.behaviours) refl (number_quiet h.behaviours (let few = header.few.1 in omega (arith, few)))))

pub naming_quiet : (run : ℕ) (name : List ℕ) → run < 2 ^ 32 → IsName name → AreQuiet (naming_text run name)
naming_quiet run name fits is =
    quiet-append (codes "behaviour ") (decimal run ++ (codes " " ++ name)) refl
    (quiet-append (decimal run) (codes " " ++ name) (number_quiet run fits) (quiet-append (codes " ") name refl (name_quiet name is)))

-- ---- bytes from 32 to 126

plain-append : (xs ys : List ℕ) → AreAllPlain xs → AreAllPlain ys → AreAllPlain (xs ++ ys)
plain-append xs ys these others = list_all-append is_plain xs ys ∙ from_both (list_all is_plain xs) (list_all is_plain ys) these others

pub quiet_plain : (bs : List ℕ) → AreQuiet bs → AreAllPlain bs
quiet_plain [] all = refl
quiet_plain (b ∷ bs) all =
    let two = both (is_quiet_byte b) (list_all is_quiet_byte bs) all in
    from_both (is_plain b) (list_all is_plain bs) (both (is_plain b) _ two.0).0 (quiet_plain bs two.1)

sentence_bytes : (bs : List ℕ) → All (λ b. IsTrue (is_plain b)) bs → AreAllPlain bs
sentence_bytes [] all = refl
sentence_bytes (b ∷ bs) all =
    from_both (is_plain b) (list_all is_plain bs) (All-head (λ x. IsTrue (is_plain x)) b bs all) (sentence_bytes bs (All-tail (λ x. IsTrue (is_plain x)) b bs all))

mark_plain : (refused : Bool) → AreAllPlain (mark_text refused)
mark_plain false = refl
mark_plain true = refl

pub said_plain : (refused : Bool) (run : ℕ) (sentence : List ℕ) → run < 2 ^ 32 → AreAllPlain sentence → AreAllPlain (said_text refused run sentence)
said_plain refused run sentence fits plain =
    plain-append (decimal run) (mark_text refused ++ sentence) (quiet_plain (decimal run) (number_quiet run fits)) (plain-append (mark_text refused) sentence (mark_plain refused) plain)

-- ---- the lines inside a block

below : (k n : ℕ) → k < n → IsBehaviours n → k < 2 ^ 32
below k n few is = let most = is.1 in omega (arith, few, most)

pub line_plain : (kind : Kind) (n : ℕ) (before : List Line) (l : Line) → IsBehaviours n → IsLine kind n before l → AreAllPlain (line_text l)
line_plain kind n before (Line.Named run name) is fits = quiet_plain (naming_text run.0 name) (naming_quiet run.0 name (below run.0 n fits.1 is) fits.2)
line_plain kind n before (Line.Entry e) is fits = quiet_plain (entry_text e) (entry_quiet (format_of kind) e fits)
line_plain kind n before (Line.Remark run sentence) is fits = said_plain false run.0 sentence (below run.0 n fits.1 is) (sentence_bytes sentence fits.2.plain)
line_plain kind n before (Line.Refused run sentence) is fits = said_plain true run.0 sentence (below run.0 n fits.1 is) (sentence_bytes sentence fits.2.plain)

-- ---- the lines of blocks

all-append : (xs ys : List (List ℕ)) → AllByRecursion AreAllPlain xs → AllByRecursion AreAllPlain ys → AllByRecursion AreAllPlain (xs ++ ys)
all-append [] ys these others = others
all-append (x ∷ xs) ys these others = (these.0, all-append xs ys these.1 others)

lines_plain : (kind : Kind) (n : ℕ) (before ls : List Line) → IsBehaviours n → AreLines kind n before ls → AllByRecursion AreAllPlain (map line_text ls)
lines_plain kind n before [] is fits = tt
lines_plain kind n before (l ∷ ls) is fits = (line_plain kind n before l is fits.0, lines_plain kind n (before ++ l ∷ []) ls is fits.1)

block_plain : (b : Block) → IsHeader b.header → AreLines b.header.kind b.header.behaviours [] b.lines → AllByRecursion AreAllPlain (block_lines b)
block_plain b header inside = (
  quiet_plain (header_text b.header) (header_quiet b.header header),
  all-append (map line_text b.lines) (end_text b.verdict ∷ []) (lines_plain b.header.kind b.header.behaviours [] b.lines header.few inside)
      (quiet_plain (end_text b.verdict) (end_quiet b.verdict), tt),
)

pub blocks_plain : (line : ℕ) (bs : List Block) → AreBlocks IsHeader line bs → AllByRecursion AreAllPlain (all_lines bs)
blocks_plain line [] are = tt
blocks_plain line (b ∷ bs) are =
    all-append (block_lines b) (all_lines bs) (block_plain b are.0.header are.0.inside) (blocks_plain (line + length (block_lines b)) bs are.1)

-- ---- none of them is LF

no_feed : (b : ℕ) → is_plain b ≡ true → (b == 10) ≡ false
no_feed b plain = grind (arith, nat_tests)

pub plain_no_lf : (bs : List ℕ) → AreAllPlain bs → NoLf bs
plain_no_lf [] all = tt
plain_no_lf (b ∷ bs) all = let two = both (is_plain b) (list_all is_plain bs) all in (no_feed b two.0, plain_no_lf bs two.1)

-- ---- a text by the parts of its first line

-- the text is these parts and others after them, before which the first line ends
pub record BeginsWith (text : List ℕ) (parts_and : List ℕ → List ℕ) (others : List (List ℕ)) : Type 0 where
  pub rest : List ℕ
  pub behind : List ℕ
  pub parts : text ≡ parts_and rest
  pub ends : EndsLine rest behind
  pub lines : lines_of behind ≡ others

pub begins_with : (text line : List ℕ) (parts_and : List ℕ → List ℕ) (others : List (List ℕ)) → ((rest : List ℕ) → line ++ rest ≡ parts_and rest) → lines_of text ≡ line ∷ others → BeginsWith text parts_and others
begins_with text line parts_and others same lines =
    let begins = first_line text line others lines in
    record { rest = begins.rest; behind = begins.behind; parts = begins.parts ∙ same begins.rest; ends = begins.ends; lines = begins.lines }

-- ---- a text by its lines

lf_is : (b : ℕ) → (b == 10) ≡ true → is_text_byte b ≡ true
lf_is b lf = grind (arith, nat_tests)

plain_is : (b : ℕ) → is_plain b ≡ true → is_text_byte b ≡ true
plain_is b plain = grind (arith, nat_tests)

first_plain : (b : ℕ) (ls : List (List ℕ)) → AllByRecursion AreAllPlain (onto_first b ls) → (is_plain b ≡ true) × AllByRecursion AreAllPlain ls
first_plain b [] all = ((both (is_plain b) true all.0).0, tt)
first_plain b (l ∷ ls) all = let two = both (is_plain b) (list_all is_plain l) all.0 in (two.0, (two.1, all.1))

text_plain : (text : List ℕ) → AllByRecursion AreAllPlain (lines_of text) → list_all is_text_byte text ≡ true
text_plain [] all = refl
text_plain (b ∷ bs) all = by_test (b == 10) refl all (λ rest. text_plain bs rest)
  where
    by_test : (t : Bool) → (b == 10) ≡ t → AllByRecursion AreAllPlain (if t then [] ∷ lines_of bs else onto_first b (lines_of bs))
        → (AllByRecursion AreAllPlain (lines_of bs) → list_all is_text_byte bs ≡ true) → list_all is_text_byte (b ∷ bs) ≡ true
    by_test true lf all more = from_both (is_text_byte b) (list_all is_text_byte bs) (lf_is b lf) (more all.1)
    by_test false other all more =
        let two = first_plain b (lines_of bs) all in from_both (is_text_byte b) (list_all is_text_byte bs) (plain_is b two.0) (more two.1)

pub evidence_bytes : (text : List ℕ) (blocks : List Block) → AreEvidence text blocks → list_all (λ b. (b == 10) || is_plain b) text ≡ true
evidence_bytes text blocks are = text_plain text (subst (AllByRecursion AreAllPlain) (sym are.lines) (blocks_plain 1 blocks are.fits))

pub ruleset byte_rules = (evidence_bytes, header_quiet, end_quiet, entry_quiet, naming_quiet)
