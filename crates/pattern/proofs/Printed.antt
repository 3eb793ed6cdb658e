-- What `{:016x}` writes of a word. Assumes nothing.
use Rattle.std.proofs.Common.{◌≡◌, ℕ, zero, suc, ◌+◌, ◌-◌, ◌*◌, ◌/◌, ◌%◌, ◌^◌, ◌<◌, Bool, true, false, cond, List}
use Rattle.std.proofs.Common.{[], ◌∷◌, ◌++◌, length, replicate, nat_eq, refl, sym, ap, ◌∙◌, arith, append_assoc, append-nil, get_or, take, map, Some}
use Rattle.std.proofs.lemmas.List.{take_more, map-append}
use Rattle.std.proofs.lemmas.Grind.{replicate_next, flat_map-append}
use Rattle.std.specs.Fmt.{padded_integral, format_spec, digits, digits_onto, digits_output, styled_digits_output, char_count, ◌++?◌}
use Rattle.io.specs.Digits.{hex_digit_ascii, last_digits}
use native.Mathlib.Nat.{pow-suc}
use borrow.Author.Tests.{eqb-true, eqb-false}
use Rattle.pattern.specs.Text.{hex_text, words_text}

zeros : (k : ℕ) → last_digits 16 k 0 ≡ replicate k 48
zeros zero = refl
zeros (suc k) =
    let next : k + 1 ≡ suc k = omega arith in
    ap (λ (l : List ℕ). l ++ 48 ∷ []) (zeros k) ∙ sym (replicate_next k 48) ∙ ap (λ (j : ℕ). replicate j 48) next

-- The digits of n before acc, up to k + 1 of them, where rest has those of n / 16 before n's last.
step :
    (k n : ℕ) (acc rest : List ℕ) (one : Bool) → nat_eq (n / 16) 0 ≡ one →
    ((n / 16 ≡ 0 → ⊥) → replicate (k + suc (length acc) - length rest) 48 ++ rest ≡ last_digits 16 k (n / 16) ++ hex_digit_ascii (n % 16) ∷ acc) →
    (let all = cond one (hex_digit_ascii (n % 16) ∷ acc) rest in
    replicate (suc k + length acc - length all) 48 ++ all ≡ last_digits 16 (suc k) n ++ acc)
step k n acc rest true e more =
    let none : n / 16 ≡ 0 = eqb-true _ _ e in
    let pad : suc k + length acc - suc (length acc) ≡ k = omega arith in
    rw (none, zeros k, pad, append_assoc)
step k n acc rest false e more =
    let same : suc k + length acc ≡ k + suc (length acc) = omega arith in
    rw (same, append_assoc) (more (eqb-false _ _ e))

onto :
    (k m n : ℕ) (acc : List ℕ) → n < 16 ^ suc k → k < m →
    replicate (suc k + length acc - length (digits_onto m 16 false n acc)) 48 ++ digits_onto m 16 false n acc ≡ last_digits 16 (suc k) n ++ acc
onto k zero n acc h l = absurd (omega arith)
onto zero (suc m) n acc h l = step zero n acc _ _ refl (λ many. absurd (many (omega (arith, h))))
onto (suc k) (suc m) n acc h l =
    let small : n < 16 ^ suc k * 16 = rw pow-suc at h in
    let less : n / 16 < 16 ^ suc k = omega arith in
    step (suc k) n acc _ _ refl (λ _. onto k m (n / 16) (hex_digit_ascii (n % 16) ∷ acc) less (omega arith))

zero_padded : (t : List ℕ) → padded_integral (format_spec 32 0 4 16 (2 ^ 64 - 1)) false [] t ≡ replicate (16 - length t) 48 ++ t
unfolding padded_integral char_count
zero_padded t =
    let zeros : 16 - length t - 0 - 0 ≡ 16 - length t = omega arith in
    rw (append-nil, zeros)

pub hex_word : (n : ℕ) → n < 2 ^ 64 → padded_integral (format_spec 32 0 4 16 (2 ^ 64 - 1)) false [] (digits 16 false n) ≡ hex_text n
unfolding digits hex_text
hex_word n small = zero_padded _ ∙ onto 15 64 n [] small (omega arith) ∙ append-nil _

-- The same of a space and a hole of a format.
pub hole_text :
    (d s : _) (n : ℕ) → s ≡ format_spec 32 0 4 16 (2 ^ 64 - 1) → digits_output d ≡ Some (digits 16 false n) → n < 2 ^ 64 →
    Some (32 ∷ []) ++? styled_digits_output d s ≡ Some (32 ∷ hex_text n)
hole_text d s n e o small = rw (e, o, hex_word n small)

-- One word more.
pub words_more :
    {X : Type 0} (word : X → ℕ) (xs : List X) (i : ℕ) (x : X) → i < length xs → x ≡ get_or xs i x →
    words_text (map word (take i xs)) ++ 32 ∷ hex_text (word x) ≡ words_text (map word (take (i + 1) xs))
unfolding words_text
words_more word xs i x l e =
    let more : take (i + 1) xs ≡ take i xs ++ x ∷ [] = take_more xs i x l ∙ ap (λ y. take i xs ++ y ∷ []) (sym e) in
    rw (more, map-append, flat_map-append, append-nil)
