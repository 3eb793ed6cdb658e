-- The balance closes: what each cell's sum is off by, added over the cells. Assumes nothing.
use mathlib.Core.Path.{◌≡◌, refl, sym, ap, ◌∙◌, subst}
use mathlib.Core.List.{List}
use Prim.Native.Nat.{ℕ, zero, suc, ◌+◌, ◌*◌, ◌^◌, ◌≤◌, ◌<◌}
use native.Mathlib.Nat.{le_trans, le_of_eq, le_refl, mul-le-mul_right, zero-mul}
use native.Mathlib.Omega.{arith}
use lib.Dec.{T}
use lib.IntN.{ℤ, nat_abs, ◌+ℤ◌, ◌-ℤ◌}
use lib.ListN.{length, take, get_or, replicate, length-replicate}
use lib.Seq.{take_all}
use lib.Ieee.{Float, nan, binary64, fits}
use lib.Ieee.Scale.{finite}
use Rattle.binary64.specs.Laws.{NearTotal}
use Rattle.binary64.specs.Numbers.{zero64}
use Rattle.binary64.specs.Units.{signed_count, total, exact_total}
use Rattle.binary64.proofs.Laws.{summation}
use Rattle.numerics.specs.Outflow.{Faces, faces_of, terms, scatter, outflows, Flows, flux_at}
use Rattle.numerics.proofs.Scatter.{length-scatter, sums_its_terms}
use Rattle.balance.specs.Balance.{one_cell_fluxes, bound, allowance, NearTerms, Balanced}
use Rattle.balance.proofs.Sums.{triangle, apart, sum_to, sum-take}
use Rattle.balance.proofs.Terms.{fit_terms, own_finite}
use Rattle.balance.proofs.Telescope.{cell_sum, telescope}

-- one cell more: the error D of the sum is at most the errors A so far and B of the cell
more : (P D A B M N : ℕ) → D ≤ A + B → A * P ≤ M → B * P ≤ N → D * P ≤ M + N
more P D A B M N h a b = let u : D * P ≤ (A + B) * P = mul-le-mul_right P h in omega arith

-- for any faces whose fluxes are values of binary64, and outflows that are finite sums of their cells' terms
module _ (m : Faces) (n : ℕ) (outs : List Float) (fit : (f : ℕ) → f < n → T (fits binary64 (m.flux f))) (fine : (c : ℕ) → c < length outs → T (finite (get_or outs c nan)))
    (sums : (c : ℕ) → c < length outs → get_or outs c nan ≡ total binary64 zero64 (terms m n c)) where
  near_total : (c : ℕ) → c < length outs → NearTotal (terms m n c)
  near_total c h = summation (terms m n c) (fit_terms m c n fit) (subst (λ (r : Float). T (finite r)) (sums c h) (fine c h))

  -- a cell's outflow is near the exact sum of its terms
  pub near_terms : NearTerms m n outs
  near_terms c h =
      subst (λ (r : Float). nat_abs (signed_count binary64 r -ℤ exact_total binary64 (terms m n c)) * 2 ^ 53 ≤ bound (terms m n c)) (sym (sums c h)) (near_total c h).near

  -- every flux is finite
  pub fluxes_finite : ((f : ℕ) → f < n → m.owner f < length outs) → (f : ℕ) → f < n → T (finite (m.flux f))
  fluxes_finite ho f h = own_finite m (m.owner f) n (near_total (m.owner f) (ho f h)).terms f h refl

  -- the cells below k
  below : (k : ℕ) → k ≤ length outs → nat_abs (exact_total binary64 (take k outs) -ℤ sum_to (cell_sum m (length outs) n) k) * 2 ^ 53 ≤ allowance m n k
  unfolding allowance sum_to exact_total
  below zero h = le_of_eq (zero-mul (2 ^ 53))
  below (suc k) h =
      let S = exact_total binary64 (take k outs) in
      let E = sum_to (cell_sum m (length outs) n) k in
      let x = signed_count binary64 (get_or outs k nan) in
      let t = exact_total binary64 (terms m n k) in
      let D = nat_abs (exact_total binary64 (take (suc k) outs) -ℤ (E +ℤ t)) in
      let tri : D ≤ nat_abs (S -ℤ E) + nat_abs (x -ℤ t) =
      le_trans (le_of_eq (ap (λ (z : ℤ). nat_abs (z -ℤ (E +ℤ t))) (sum-take outs k h) ∙ ap nat_abs (apart S x E t))) (triangle (S -ℤ E) (x -ℤ t)) in
      more (2 ^ 53) D (nat_abs (S -ℤ E)) (nat_abs (x -ℤ t)) (allowance m n k) (bound (terms m n k)) tri (below k (omega arith)) (near_terms k h)

  pub closes : ((f : ℕ) → f < n → m.owner f < length outs) → ((f : ℕ) → f < n → m.neighbour f ≤ length outs) → Balanced m n outs
  closes ho hn =
      let k = length outs in
      record {
        finite_fluxes = fluxes_finite ho;
        cells = near_terms;
        whole =
            subst (λ (l : List Float). nat_abs (exact_total binary64 l -ℤ exact_total binary64 (one_cell_fluxes m n)) * 2 ^ 53 ≤ allowance m n k) (take_all k outs (le_refl k))
            (subst (λ (z : ℤ). nat_abs (exact_total binary64 (take k outs) -ℤ z) * 2 ^ 53 ≤ allowance m n k) (telescope m k n ho hn) (below k (le_refl k)));
      }

-- the outflows of a lent flux, where the checks have passed
pub balances : (cells : ℕ) (adjacency : List ℕ) (flux : List Float) → Flows cells adjacency flux → ((f : ℕ) → f < length flux → T (fits binary64 (flux_at flux f)))
    → ((c : ℕ) → c < length (outflows cells adjacency flux) → T (finite (get_or (outflows cells adjacency flux) c nan)))
    → Balanced (faces_of adjacency flux) (length flux) (outflows cells adjacency flux)
unfolding outflows
balances cells adjacency flux flows fit fine =
    let m = faces_of adjacency flux in
    let size : length (scatter m (replicate cells zero64) (length flux)) ≡ cells = length-scatter m (replicate cells zero64) (length flux) ∙ length-replicate cells zero64 in
    closes m (length flux) (scatter m (replicate cells zero64) (length flux)) fit fine
    (λ c h. sums_its_terms cells adjacency flux c (subst (λ (k : ℕ). c < k) size h))
    (λ f h. subst (λ (k : ℕ). m.owner f < k) (sym size) (flows.faces f h).owner)
    (λ f h. subst (λ (k : ℕ). m.neighbour f ≤ k) (sym size) (flows.faces f h).neighbour)
