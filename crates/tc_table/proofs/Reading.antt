-- The history that is written is read again as what it was.
use Rattle.std.proofs.{Common.{ℕ, ◌≡◌, ◌≢◌, List, [], ◌∷◌, ◌++◌, map, refl, ap, subst}, lemmas.List.append-nil}
use Rattle.tc_rules.specs.Prelude.{Case, Entry, IsBehaviours, IsName, overall, past_of}
use Rattle.tc_blocks.{specs.{Histories.{AreHistories, IsHistoryHeader}, Prelude.{AreEntries, history_text}, Line.entries_of, Text.{AreLines, IsBlock}, declared.{block.Block.Block, header.Kind.Kind, history_block.History.History, line.Line.Line}}, proofs.Lemmas.Histories.are_read}
use Rattle.tc_table.specs.Calls.{written_text}

same_entries : (es : List Entry) → entries_of (map Line.Entry es) ≡ es
same_entries [] = refl
same_entries (e ∷ es) = ap (λ l. e ∷ l) (same_entries es)

lines_fit : (n : ℕ) (before : List Line) (es : List Entry) → AreEntries 2 es → AreLines Kind.History2 n before (map Line.Entry es)
lines_fit n before [] fit = tt
lines_fit n before (e ∷ es) fit = (fit.0, lines_fit n (before ++ Line.Entry e ∷ []) es fit.1)

abbrev block : List ℕ → Case → Block
block name t = record {
  header = record { kind = Kind.History2; name = name; behaviours = t.behaviours };
  first_line = 1;
  lines = map Line.Entry t.history;
  verdict = overall (past_of t);
}

header_fits : (name : List ℕ) (t : Case) → IsName name → IsBehaviours t.behaviours → IsHistoryHeader (block name t).header
header_fits name t named few = (record { name_is = named; few = few; kind_fits = λ e. absurd cc }, λ e. cc)

block_fits : (name : List ℕ) (t : Case) → IsName name → IsBehaviours t.behaviours → AreEntries 2 t.history → IsBlock IsHistoryHeader 1 (block name t)
block_fits name t named few fit = record { header = header_fits name t named few; inside = lines_fit t.behaviours [] t.history fit; first = refl }

-- the history with these entries instead
abbrev with_entries : List ℕ → Case → List Entry → History
with_entries name t es = record { format = 2; name = name; behaviours = t.behaviours; first_line = 1; entries = es; verdict = overall (past_of t) }

abbrev text_of : History → List ℕ
text_of h = history_text h.format h.name h.behaviours h.entries h.verdict

some : (b : Block) → b ∷ [] ≢ []
some b = λ e. cc

pub read_again : (name : List ℕ) (t : Case) → IsName name → IsBehaviours t.behaviours → AreEntries 2 t.history → AreHistories (written_text name t) (with_entries name t t.history ∷ [])
read_again name t named few fit =
    let h = with_entries name t in let es = entries_of (map Line.Entry t.history) in
    subst (λ (es : List Entry). AreHistories (text_of (h es)) (h es ∷ [])) (same_entries t.history)
    (subst (λ (text : List ℕ). AreHistories text (h es ∷ [])) (append-nil (text_of (h es)))
    (are_read (block name t ∷ []) (some (block name t)) (block_fits name t named few fit, tt)))
