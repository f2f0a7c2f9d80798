-- The page of a text.
use Rattle.std.specs.{Prelude.{ℕ, ◌==◌, nat_lt, if◌then◌else◌, List, [], ◌∷◌, ◌++◌}, List.flat_map}
use Rattle.tc_answer.specs.declared.{head.TheConstants.HEAD, tail.TheConstants.TAIL}

-- how a page holds a text: `<`, which is 60, as the character U+2039, and any other byte as it is
abbrev pub held : List ℕ → List ℕ
held text = flat_map (λ b. if b == 60 then 226 ∷ 128 ∷ 185 ∷ [] else b ∷ []) text

-- the page that holds this text: what a page has before it, the text as it is held, and what a page has after it
unfoldable pub page_of : List ℕ → List ℕ
page_of text = HEAD.now ++ (held text ++ TAIL.now)

-- the text that a page shows: the first byte of U+2039 is shown as `<`, and its others as nothing
abbrev pub shown : List ℕ → List ℕ
shown page = flat_map (λ b. if b == 226 then 60 ∷ [] else if nat_lt b 128 then b ∷ [] else []) page
