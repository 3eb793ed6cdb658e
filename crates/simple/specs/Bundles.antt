-- The fields that travel together, as the lists that their slices hold. Definitions only.
use Rattle.coupling.specs.Grid.{Field, field_of}
use Rattle.predictor.specs.Prediction.{FlowFields, flow_fields}
use Rattle.simple.specs.Corrected.{Fields, fields}
use Rattle.simple.specs.declared.lent.FlowFields.{FlowFields as LentFlowFields}
use Rattle.simple.specs.declared.lent.Corrections.{Corrections}

abbrev pub flow_fields_of : LentFlowFields → FlowFields
flow_fields_of l = flow_fields (field_of l.velocity) (field_of l.pressure) (field_of l.responses) (field_of l.walls)

-- with the predicted flux
abbrev pub fields_of : Field → Corrections → Fields
fields_of predicted l = fields predicted (field_of l.coefficients) (field_of l.correction)
