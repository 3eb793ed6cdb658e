use Rattle.std.proofs.Common.{rules}
use Rattle.simple.proofs.Corrected.{keeps_promise}
use Rattle.simple.proofs.correct_face_flux_in_place.Goals as goal

pub returns-clause-promise : goal.returns-clause-promise
returns-clause-promise c = keeps_promise _ _ _ _ _ _ _ _ c.check_correction.ensures.checked (search rules) (search rules) (search rules)
