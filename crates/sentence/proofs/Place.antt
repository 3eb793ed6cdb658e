-- A sentence in its place: an opening, digits and a full stop at the start of a slice. Assumes nothing.
use mathlib.Core.Path.{◌≡◌, refl, sym, ap, ◌∙◌}
use mathlib.Core.List.{List, [], ◌∷◌, ◌++◌, append_assoc}
use Prim.Native.Nat.{ℕ, suc, ◌+◌, ◌-◌, ◌<◌, ◌≤◌}
use native.Mathlib.Omega.{arith}
use borrow.Author.Tests.{le-leb, lt-leb}
use borrow.Rule.Slice.PartMut.{put_mid}
use lib.ListN.{length, get_or, take, drop, set, length-append}
use lib.Seq.{set_at, drop-cons, take_at, drop_at, drop-drop}
use Rattle.sentence.specs.Sentence.{written}

-- digits and a full stop behind an opening
pub in_place : (opening digits old : List ℕ) (end : ℕ) → length opening + length digits ≡ end → end < length old
    → set (put_mid (length opening) (end - length opening) (opening ++ drop (length opening) old) digits) end 46
    ≡ (opening ++ (digits ++ (46 ∷ []))) ++ drop (length (opening ++ (digits ++ (46 ∷ [])))) old
in_place opening digits old end e h =
    ap (λ t. set (take (length opening) begun ++ (digits ++ t)) end 46) (behind ∙ drop-cons old end 0 h)
    ∙ ap (λ t. set (t ++ (digits ++ (get_or old end 0 ∷ drop (suc end) old))) end 46) (take_at opening (drop (length opening) old) _ refl)
    ∙ ap (λ t. set t end 46) (sym (append_assoc opening digits _))
    ∙ set_at (opening ++ digits) _ _ 46 end (length-append opening digits ∙ e)
    ∙ sym (append_assoc (opening ++ digits) (46 ∷ []) _)
    ∙ ap (λ t. t ++ drop (suc end) old) (append_assoc opening digits (46 ∷ []))
    ∙ ap (λ n. (opening ++ (digits ++ (46 ∷ []))) ++ drop n old) whole
  where
    begun : List ℕ
    begun = opening ++ drop (length opening) old

    behind : drop (end - length opening) (drop (length opening) begun) ≡ drop end old
    behind =
        ap (drop (end - length opening)) (drop_at opening _ _ refl)
        ∙ drop-drop (end - length opening) (length opening) old
        ∙ ap (λ n. drop n old) (omega (arith, e))

    whole : suc end ≡ length (opening ++ (digits ++ (46 ∷ [])))
    whole = simp (length-append) (omega (arith, e))

pub needed : (opening digits : List ℕ) → length opening + length digits + 1 ≡ length (opening ++ (digits ++ (46 ∷ [])))
needed opening digits = simp length-append (omega arith)

-- what a sentence leaves, where there is room for it and where there is none
pub fits_in : (text old new : List ℕ) → length text ≤ length old → new ≡ text ++ drop (length text) old → new ≡ written text old
unfolding written
fits_in text old new h e = rw (le-leb (length text) (length old) h) e

pub no_room : (text old : List ℕ) → length old < length text → old ≡ written text old
unfolding written
no_room text old h = rw (lt-leb (length text) (length old) h)
