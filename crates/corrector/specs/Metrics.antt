-- The root mean square of the outflows, and the largest divergence. Definitions only.
use Rattle.refusal.specs.Numbers.{refusal}
use Rattle.refusal.specs.declared.Reason.{Reason}
use Rattle.refusal.specs.declared.Reason.TheVariants.{BadSize, WrongLength, OtherMesh, BadCoefficient}
use Rattle.refusal.specs.declared.Refusal.{Refusal}
use Rattle.std.specs.Prelude.{◌≡◌, List, [], ◌∷◌, Bool, cond, ℕ, zero, suc, ◌*◌, eqb, pos, length, get_or, replicate, Float, Result, Ok, Err}
use Rattle.std.specs.List.{fold}
use Rattle.std.specs.Float.{nan, binary64}
use Rattle.std.specs.Float.Ieee.{of_int}
use Rattle.binary64.specs.Numbers.{zero64, is_finite, larger, ◌⊕◌, ◌⊗◌, ◌⊘◌}
use Rattle.binary64.specs.Root.{root}
use Rattle.mesh.specs.Answers.{pass, first_of, or_else, Answer, Outcome, accepted}
use Rattle.mesh.specs.Checks.{sizes_ok}
use Rattle.mesh.specs.Mesh.{sides}
use Rattle.mesh.specs.Pass.{first_refusal, value_of, handed_out, if_refused}
use Rattle.mesh.specs.Records.{volume_at}
use Rattle.chain.specs.Search.{every_of}
use Rattle.mesh.specs.declared.Counts.{Counts}
use Rattle.numerics.specs.Outflow.{outflows}
use Rattle.coupling.specs.Cell.{divergence}
use Rattle.coupling.specs.Grid.{Field}
use Rattle.corrector.specs.declared.inner.metrics.Metrics.{Metrics}

-- the squares summed in cell order from +0.0
abbrev pub squared_sum : List Float → Float
squared_sum outflow = fold (λ sum x. sum ⊕ x ⊗ x) zero64 outflow

unfoldable pub root_mean_square : List Float → Float
root_mean_square outflow = root (squared_sum outflow ⊘ of_int binary64 (pos (length outflow)))

unfoldable pub divergence_at : List Float → List Float → ℕ → Outcome
divergence_at places outflow c = divergence (get_or outflow c nan) (volume_at places c)

-- the largest of +0.0 and the divergences of the cells below n
unfoldable pub largest : (ℕ → Outcome) → ℕ → Float
largest g zero = zero64
largest g (suc n) = larger (largest g n) (value_of (g n))

-- BadCoefficient names no cell: its index is 0
unfoldable pub index_in : Reason → ℕ → ℕ
index_in BadCoefficient c = 0
index_in k c = c

-- the metrics where no cell refuses
unfoldable pub measured_by : Answer → Float → Float → Result Metrics Refusal
measured_by (Ok u) r d = Ok (record { root_mean_square = r; largest = d })
measured_by (Err e) r d = Err (refusal e.reason (index_in e.reason e.index))

-- BadCoefficient where the root mean square is not finite; then each cell in order, BadVolume or BadCoefficient
unfoldable pub metrics_of : List Float → List Float → Result Metrics Refusal
metrics_of places outflow =
    let n = length outflow in
    let g = divergence_at places outflow in
    let rms = root_mean_square outflow in
    cond (is_finite rms) (measured_by (first_refusal g n) rms (largest g n)) (Err (refusal BadCoefficient 0))

-- as an answer; and what the two outputs hold
unfoldable pub metrics_answer : Result Metrics Refusal → Answer
metrics_answer (Ok m) = accepted
metrics_answer (Err e) = Err e

unfoldable pub metrics_numbers : Result Metrics Refusal → List Float
metrics_numbers (Ok m) = m.root_mean_square ∷ m.largest ∷ []
metrics_numbers (Err e) = replicate 2 zero64

-- ---- the entry

-- WrongLength, of what it is lent; the outputs have so many numbers
abbrev pub metrics_sizes : Counts → List ℕ → List Float → Field → ℕ → ℕ → List Bool
metrics_sizes n adjacency places flux outs two =
    eqb (length adjacency) (2 * n.faces)
    ∷ eqb (length places) (4 * n.cells)
    ∷ eqb (length flux.values) n.faces
    ∷ eqb outs n.cells
    ∷ eqb two 2
    ∷ []

-- those of shape, and those of the adjacency
unfoldable pub metrics_checks : Counts → List ℕ → List Float → Field → ℕ → ℕ → Answer
metrics_checks n adjacency places flux outs two =
    first_of
    (pass BadSize (sizes_ok n)
    ∷ pass WrongLength (every_of (metrics_sizes n adjacency places flux outs two))
    ∷ pass OtherMesh (eqb flux.number n.mesh)
    ∷ sides n.cells adjacency
    ∷ [])

-- the answer, and what the two outputs hold after the call: untouched where a check refuses, +0.0 where arithmetic does
pub record MetricsCall
    (n : Counts)
    (adjacency : List ℕ)
    (places : List Float)
    (flux : Field)
    (oldOutflow oldMetrics : List Float)
    (r : Answer)
    (outflow metrics : List Float) : Type 0 where
  pub answer :
      let checks = metrics_checks n adjacency places flux (length oldOutflow) (length oldMetrics) in
      r ≡ or_else checks (metrics_answer (metrics_of places (outflows n.cells adjacency flux.values)))
  pub flows :
      let checks = metrics_checks n adjacency places flux (length oldOutflow) (length oldMetrics) in
      outflow ≡ if_refused checks oldOutflow (handed_out r n.cells (outflows n.cells adjacency flux.values))
  pub numbers :
      let checks = metrics_checks n adjacency places flux (length oldOutflow) (length oldMetrics) in
      metrics ≡ if_refused checks oldMetrics (metrics_numbers (metrics_of places (outflows n.cells adjacency flux.values)))
