-- What a step is lent and its outputs, as the lists that their slices hold. Definitions only.
use Rattle.std.specs.Prelude.{◌≡◌, ℕ}
use Rattle.mesh.specs.Bundles.{mesh_of, conditions_of}
use Rattle.mesh.specs.declared.lent.Mesh.{Mesh}
use Rattle.mesh.specs.declared.lent.Conditions.{Conditions}
use Rattle.numerics.specs.Slices.{slices}
use Rattle.coupling.specs.Grid.{field_of}
use Rattle.scheme.specs.Step.{Inputs, inputs}
use Rattle.step.specs.Call.{Handed, handed}
use Rattle.step.specs.declared.lent.Fields.{Fields}
use Rattle.step.specs.declared.lent.Outputs.{Outputs}

abbrev pub inputs_of : Mesh → Conditions → ℕ → Fields → Inputs
inputs_of m k records x =
    inputs (mesh_of m) (conditions_of k) records (field_of x.velocity) (field_of x.pressure) (field_of x.responses) (field_of x.walls) (field_of x.correction)

abbrev pub outputs_of : Outputs → Handed
outputs_of o =
    handed (slices o.starts.now o.equations.now o.weights.now o.inverses.now) o.gradient.now o.predicted.now o.coefficients.now o.flux.now
    o.outflow.now o.metrics.now

-- the same slices, with room for as many records
pub record Same (a b : Outputs) : Type 0 where
  pub records : b.records ≡ a.records
  pub starts : b.starts.ghost_name ≡ a.starts.ghost_name
  pub equations : b.equations.ghost_name ≡ a.equations.ghost_name
  pub weights : b.weights.ghost_name ≡ a.weights.ghost_name
  pub inverses : b.inverses.ghost_name ≡ a.inverses.ghost_name
  pub gradient : b.gradient.ghost_name ≡ a.gradient.ghost_name
  pub predicted : b.predicted.ghost_name ≡ a.predicted.ghost_name
  pub coefficients : b.coefficients.ghost_name ≡ a.coefficients.ghost_name
  pub flux : b.flux.ghost_name ≡ a.flux.ghost_name
  pub outflow : b.outflow.ghost_name ≡ a.outflow.ghost_name
  pub metrics : b.metrics.ghost_name ≡ a.metrics.ghost_name
