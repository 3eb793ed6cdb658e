use Rattle.std.proofs.Common.{arith, suc, ◌<◌, sym, ap, ◌∙◌, ◌≡◌, Ok, Err}
use Rattle.std.specs.Float.{nan}
use Rattle.std.proofs.lemmas.Grind.{common_steps}
use lib.ListN.{length, length-set}
use lib.Seq.{get_or-set_other}
use Rattle.refusal.specs.Numbers.{refusal}
use Rattle.refusal.specs.declared.Reason.{Reason}
use Rattle.mesh.specs.Records.{peer_at}
use Rattle.passes.proofs.Each.{all_filled, refused}
use Rattle.linked.proofs.Pairs.{lower_has, one_left, one_more, reads_one, unlinked_at}
use Rattle.linked.specs.Linked.{linked_at}
use Rattle.linked.specs.Bundles.{links_of_lent}
use Rattle.linked.proofs.inner.prediction.Links.predict.Goals as goal
use Rattle.linked.proofs.inner.prediction.Links.predict.Goals.{in-Some+in_ok-predicted, in_default}

pub flux_at-flux-requires-clause-lower : goal.flux_at-flux-requires-clause-lower
flux_at-flux-requires-clause-lower c =
    let d = links_of_lent c.args.self.now in
    let f = c.loop-f.f-counter in
    let peer = c.in-Some.peer in
    let there : peer_at c.args.self.now.bounds.codes.now f ≡ suc peer = grind (arith, common_steps) in
    λ l. lower_has d c.args.predicted.now peer f _ (c.args.self.now.paired f peer (omega arith) there) l (c.loop-f.invariant.done peer l)

pub returns-in_err-predicted : goal.returns-in_err-predicted
returns-in_err-predicted c =
    let d = links_of_lent c.args.self.now in
    let f = c.loop-f.f-counter in
    let old = c.args.predicted.now in
    let why : (k : Reason) × (c.flux_at-flux.result ≡ Err k) × (c.from_residual.result ≡ Err (refusal k f)) = grind (arith, common_steps) in
    let here = reads_one d c.loop-f.predicted old f (c.loop-f.invariant.same f (omega arith)) in
    record { passes = rw why.2 (refused (linked_at d old) c.loop-f.predicted _ _ f why.0 (omega arith) c.loop-f.invariant.done (sym here ∙ sym c.flux_at-flux.ensures.answer ∙ why.1)) }

pub loop-f-preserved : goal.loop-f-preserved
loop-f-preserved c =
    let d = links_of_lent c.args.self.now in
    let f = c.loop-f.f-counter in
    let old = c.args.predicted.now in
    let out = c.loop-f.predicted in
    let held = c.loop-f.invariant in
    let stood = held.same f (omega arith) in
    let room : f < length out = omega (arith, held.size) in
    elim c.match-peer.branch [
      | in-Some+in_ok-predicted w ↦
          let v = w.in_ok-predicted.field-0 in
          let is : w.flux_at-flux.result ≡ Ok v = grind (arith, common_steps) in
          rw w.predicted-is
          (record {
            size = length-set out f v ∙ held.size;
            done = one_more (linked_at d old) out f v room (sym (reads_one d out old f stood) ∙ sym w.flux_at-flux.ensures.answer ∙ is) held.done;
            same = λ k b. get_or-set_other out f k v nan (λ e. omega (arith, b, e)) ∙ held.same k (omega (arith, b));
          })
      | in_default w ↦
          let none : peer_at c.args.self.now.bounds.codes.now f ≡ 0 = grind (arith, common_steps) in
          rw w.predicted-is
          (record {
            size = held.size;
            done = one_left (linked_at d old) out f (unlinked_at d old f none ∙ ap Ok (sym stood)) held.done;
            same = λ k b. held.same k (omega (arith, b));
          })
    ]

pub returns : goal.returns
returns c =
    let d = links_of_lent c.args.self.now in
    record { passes = all_filled (linked_at d c.args.predicted.now) c.loop-f.predicted _ c.loop-f.invariant.size (λ k b. c.loop-f.invariant.done k (omega (arith, b))) }
