-- Searches over the indices below a number, and tests that hold together. Definitions only.
use Rattle.std.specs.Prelude.{◌≡◌, List, [], ◌∷◌, Bool, true, false, ◌&&◌, ◌||◌, cond, ℕ, zero, suc, ◌<◌, ltb, Option, None, Some}

-- whether b holds and every one of bs; whether every one of a list does
abbrev pub all_after : Bool → List Bool → Bool
all_after b [] = b
all_after b (a ∷ bs) = all_after (b && a) bs

abbrev pub every_of : List Bool → Bool
every_of bs = all_after true bs

-- whether b holds or some one of bs; whether some one of a list does
abbrev pub any_after : Bool → List Bool → Bool
any_after b [] = b
any_after b (a ∷ bs) = any_after (b || a) bs

abbrev pub some_of : List Bool → Bool
some_of bs = any_after false bs

-- the lowest index below n at which g holds
unfoldable pub or_at : Option ℕ → Bool → ℕ → Option ℕ
or_at (Some k) t n = Some k
or_at None true n = Some n
or_at None false n = None

unfoldable pub lowest_where : (ℕ → Bool) → ℕ → Option ℕ
lowest_where g zero = None
lowest_where g (suc n) = or_at (lowest_where g n) (g n) n

-- what an index so found is, in words: g holds there, and at no lower index (`lowest_found`, proofs/Search.antt)
pub record Lowest (g : ℕ → Bool) (n i : ℕ) : Type 0 where
  pub within : i < n
  pub holds : g i ≡ true
  pub none : (j : ℕ) → j < i → g j ≡ false

-- the lower of two places
unfoldable pub lower : Option ℕ → Option ℕ → Option ℕ
lower None b = b
lower (Some i) None = Some i
lower (Some i) (Some j) = cond (ltb j i) (Some j) (Some i)
