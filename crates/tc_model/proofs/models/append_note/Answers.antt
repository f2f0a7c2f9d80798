use Rattle.std.proofs.Common.{◌≡◌, ◌++◌, List, ℕ, append_assoc}
use Rattle.tc_model.proofs.models.append_note.Goals as goal

-- what was appended part by part is there as a whole
whole : (o a b c d e f g name words x1 x2 x3 x4 x5 x6 x7 : List ℕ) → name ≡ d → words ≡ f → x1 ≡ o ++ a → x2 ≡ x1 ++ b → x3 ≡ x2 ++ c → x4 ≡ x3 ++ name → x5 ≡ x4 ++ e →
    x6 ≡ x5 ++ words → x7 ≡ x6 ++ g → x7 ≡ o ++ (a ++ (b ++ (c ++ (d ++ (e ++ (f ++ g))))))
whole o a b c d e f g name words x1 x2 x3 x4 x5 x6 x7 n w h1 h2 h3 h4 h5 h6 h7 = simp (h7, h6, h5, h4, h3, h2, h1, n, w, append_assoc)

pub returns-in_ok-push : goal.returns-in_ok-push
returns-in_ok-push c =
    rw c.in-Some.is (whole _ _ _ _ _ _ _ _ _ _ _ _ _ _ _ _ _ c.bytes.ensures.bytes c.text.ensures c.in_ok-append_text.ensures.ok c.in_ok-append_number.ensures.ok
    c.in_ok-append_text-2.ensures.ok c.in_ok-extend_from_slice.ensures.items c.in_ok-append_text-3.ensures.ok c.in_ok-append_text-4.ensures.ok c.in_ok-push.ensures.items)
