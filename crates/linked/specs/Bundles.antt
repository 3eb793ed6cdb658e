-- What the flux of a linked face is predicted from as it is lent, as the lists that its slices hold. Definitions only.
use Rattle.coupling.specs.Grid.{grid_of_lent}
use Rattle.mesh.specs.Bundles.{bounds_of_lent}
use Rattle.predictor.specs.Bundles.{flow_of_lent}
use Rattle.linked.specs.Linked.{Links, links}
use Rattle.linked.specs.declared.inner.prediction.Links.{Links as LentLinks}

abbrev pub links_of_lent : LentLinks → Links
links_of_lent d = links (grid_of_lent d.flow.coupling.grid) (bounds_of_lent d.bounds) (flow_of_lent d.flow) d.coefficients.now
