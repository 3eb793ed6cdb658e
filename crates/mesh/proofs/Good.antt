-- Where every check of a mesh passes, what later functions read by is in range. Assumes nothing.
use Rattle.refusal.specs.declared.Reason.TheVariants.{BadSize, WrongLength, OtherMesh, BadFace, BrokenChain, CrowdedCell, BadLink, WrongDistance}
use mathlib.Core.Path.{◌≡◌, subst}
use mathlib.Core.List.{List}
use mathlib.Core.Bool.{true, ◌&&◌}
use Prim.Native.Nat.{ℕ, ◌+◌, ◌*◌, ◌/◌, ◌<◌}
use native.Mathlib.Omega.{arith}
use lib.Dec.{eqb}
use lib.ListN.{length}
use lib.Ieee.{Float}
use borrow.Author.Tests.{eqb-true}
use Rattle.mesh.specs.Answers.{pass, first_of, accepted}
use Rattle.mesh.specs.Checks.{sizes_ok, lowest_bad_face, lowest_unknown_code, lowest_bad_link}
use Rattle.chain.specs.Chains.{lowest_broken, Chain}
use Rattle.mesh.specs.Records.{first_facing, first_bordering}
use Rattle.degree.specs.Degree.{lowest_crowded, lowest_long, FewNamings}
use Rattle.mesh.specs.Facts.{GridSized, FacesIn, Placed, ChainsIn, LinksIn, PeersIn}
use Rattle.mesh.specs.declared.Counts.{Counts}
use Rattle.mesh.specs.Distances.{lowest_wrong_distances, lowest_wrong_between, Carried}
use Rattle.mesh.specs.Mesh.{Mesh, Conditions, mesh_sizes, mesh_sized, conditions_sized, sides, with_equations, links, topology, grid_sides, grid_with_equations, grid_links, whole_mesh, checks, Sized, Sound, Good}
use Rattle.chain.specs.declared.Form.TheVariants.{First, Second, Single}
use Rattle.chain.proofs.Truth.{and_true, every_at}
use Rattle.chain.proofs.Search.{none_lower}
use Rattle.mesh.proofs.Facts.{both_accepted, all_accepted, passed, nothing_at, small, faces_in, chains_in, few_namings, short_chains, links_in, peer_below}
use Rattle.mesh.proofs.Distances.{carried_between, carried_linked}

pub sized : (m : Mesh) → mesh_sized m ≡ true → Sized m
sized m h =
    let w = every_at (mesh_sizes m) h in
    record {
      adjacency = eqb-true _ _ (w 0);
      geometry = eqb-true _ _ (w 1);
      heads = eqb-true _ _ (w 2);
      places = eqb-true _ _ (w 3);
      facing = eqb-true _ _ (w 4);
      bordering = eqb-true _ _ (w 5);
    }

-- an index below a count is one below the records of a slice of that size
in_records : (n : ℕ) (l : List ℕ) (i : ℕ) → length l ≡ 2 * n → i < n → i < length l / 2
in_records n l i e h = omega arith

in_count : (n : ℕ) (l : List ℕ) (i : ℕ) → length l ≡ 2 * n → i < length l / 2 → i < n
in_count n l i e h = omega arith

-- the records of a slice of that size are the count
counted : (l : List ℕ) (n limit r : ℕ) → length l ≡ 2 * n → Chain l (length l / 2) limit r → Chain l n limit r
counted l n limit r e c = let h : length l / 2 ≡ n = omega arith in subst (λ (k : ℕ). Chain l k limit r) h c

-- ---- by what is lent

pub sides_passed : (cells : ℕ) (adjacency : List ℕ) → sides cells adjacency ≡ accepted → FacesIn cells adjacency × FewNamings cells adjacency
unfolding sides
sides_passed cells adjacency h =
    let s = all_accepted _ h in
    (faces_in cells adjacency (nothing_at BadFace _ (s 0)), few_namings cells adjacency (nothing_at CrowdedCell _ (s 1)))

pub with_equations_passed : (cells : ℕ) (adjacency equations starts : List ℕ) → with_equations cells adjacency equations starts ≡ accepted
    → FacesIn cells adjacency × ChainsIn (cells + 2) equations Single starts × FewNamings cells adjacency
unfolding with_equations
with_equations_passed cells adjacency equations starts h =
    let s = all_accepted _ h in (
      faces_in cells adjacency (nothing_at BadFace _ (s 0)),
      chains_in (cells + 2) equations Single starts (nothing_at BrokenChain _ (s 1)),
      few_namings cells adjacency (nothing_at CrowdedCell _ (s 2)),
    )

pub links_passed : (cells : ℕ) (adjacency codes : List ℕ) → links cells adjacency codes ≡ accepted → FacesIn cells adjacency × FewNamings cells adjacency × LinksIn adjacency codes
unfolding links
links_passed cells adjacency codes h =
    let s = all_accepted _ h in
    let none = none_lower (lowest_bad_face cells adjacency) (lowest_unknown_code codes) (nothing_at BadFace _ (s 0)) in (
      faces_in cells adjacency none.0,
      few_namings cells adjacency (nothing_at CrowdedCell _ (s 1)),
      links_in adjacency codes (nothing_at BadLink (lowest_bad_link adjacency codes) (s 2)),
    )

pub sound : (m : Mesh) (codes : List ℕ) → Sized m → length codes ≡ 2 * m.counts.faces → topology m codes ≡ accepted → Sound m codes
unfolding topology
sound m codes z k h =
    let s = all_accepted _ h in
    let faces = none_lower (lowest_bad_face m.counts.cells m.adjacency) (lowest_unknown_code codes) (nothing_at BadFace _ (s 0)) in
    let chains = none_lower (lowest_broken m.counts.faces m.facing First m.heads) (lowest_broken m.counts.cells m.bordering Second m.heads) (nothing_at BrokenChain _ (s 1)) in
    let few = none_lower (lowest_long m.heads m.facing) (lowest_crowded m.counts.cells m.adjacency) (nothing_at CrowdedCell _ (s 2)) in
    let none = nothing_at BadLink (lowest_bad_link m.adjacency codes) (s 3) in
    record {
      faces = λ f l. faces_in m.counts.cells m.adjacency faces.0 f (in_records m.counts.faces m.adjacency f z.adjacency l);
      facings = λ c l. counted m.facing m.counts.facings m.counts.faces (first_facing m.heads c) z.facing (chains_in m.counts.faces m.facing First m.heads chains.0 c (in_records m.counts.cells m.heads c z.heads l));
      borderings = λ c l. counted m.bordering m.counts.borderings m.counts.cells (first_bordering m.heads c) z.bordering (chains_in m.counts.cells m.bordering Second m.heads chains.1 c (in_records m.counts.cells m.heads c z.heads l));
      few = few_namings m.counts.cells m.adjacency few.1;
      short = λ c l. short_chains m.heads m.facing few.0 c (in_records m.counts.cells m.heads c z.heads l);
      links = λ f l. links_in m.adjacency codes none f (in_records m.counts.faces codes f k l);
    }

-- ---- with geometry and places

-- as many faces as there are records
in_geometry : (n f : ℕ) (g : List Float) → length g ≡ 11 * n → f < n → f < length g / 11
in_geometry n f g e h = omega arith

pub grid_sides_passed : (n : Counts) (a : List ℕ) (g p : List Float) → GridSized n a g p → grid_sides n.cells a g p ≡ accepted
    → FacesIn n.cells a × ((f : ℕ) → f < n.faces → Carried a g p f)
unfolding grid_sides
grid_sides_passed n a g p z h =
    let s = all_accepted _ h in
    let none = nothing_at WrongDistance (lowest_wrong_between a g p) (s 1) in
    ((sides_passed n.cells a (s 0)).0, λ f l. carried_between a g p none f (in_geometry n.faces f g z.geometry l))

pub grid_with_equations_passed : (n : Counts) (a : List ℕ) (g p : List Float) (equations starts : List ℕ) → GridSized n a g p → grid_with_equations n.cells a g p equations starts ≡ accepted
    → FacesIn n.cells a × ChainsIn (n.cells + 2) equations Single starts × ((f : ℕ) → f < n.faces → Carried a g p f)
unfolding grid_with_equations
grid_with_equations_passed n a g p equations starts z h =
    let s = all_accepted _ h in
    let none = nothing_at WrongDistance (lowest_wrong_between a g p) (s 1) in
    let w = with_equations_passed n.cells a equations starts (s 0) in
    (w.0, w.1, λ f l. carried_between a g p none f (in_geometry n.faces f g z.geometry l))

pub grid_links_passed : (n : Counts) (a : List ℕ) (g p : List Float) (codes : List ℕ) → GridSized n a g p → grid_links n.cells a g p codes ≡ accepted
    → FacesIn n.cells a × LinksIn a codes × ((f : ℕ) → f < n.faces → Carried a g p f)
unfolding grid_links
grid_links_passed n a g p codes z h =
    let s = all_accepted _ h in
    let none = nothing_at WrongDistance (lowest_wrong_distances a g p codes) (s 1) in
    let w = links_passed n.cells a codes (s 0) in
    (w.0, w.2, λ f l. carried_linked a g p codes none f (in_geometry n.faces f g z.geometry l))

pub whole : (m : Mesh) (codes : List ℕ) → Sized m → length codes ≡ 2 * m.counts.faces → whole_mesh m codes ≡ accepted
    → Sound m codes × ((f : ℕ) → f < m.counts.faces → Carried m.adjacency m.geometry m.places f)
unfolding whole_mesh
whole m codes z k h =
    let s = all_accepted _ h in
    let none = nothing_at WrongDistance (lowest_wrong_distances m.adjacency m.geometry m.places codes) (s 1) in
    (sound m codes z k (s 0), λ f l. carried_linked m.adjacency m.geometry m.places codes none f (in_geometry m.counts.faces f m.geometry z.geometry l))

-- ---- what 20 asks for, once the checks before it have passed

pub placed : (n : Counts) (a : List ℕ) (g p : List Float) → GridSized n a g p → FacesIn n.cells a → Placed n a p
placed n a g p z h = record { adjacency = z.adjacency; places = z.places; sides = h }

pub peers_in : (a codes : List ℕ) (faces : ℕ) → length codes ≡ 2 * faces → LinksIn a codes → PeersIn codes faces
peers_in a codes faces e h = record { codes = e; peers = λ f l. peer_below a codes faces f e (h f (in_records faces codes f e l)) }

-- of a whole mesh
pub sound_placed : (m : Mesh) (codes : List ℕ) → Sized m → Sound m codes → Placed m.counts m.adjacency m.places
sound_placed m codes z s = record { adjacency = z.adjacency; places = z.places; sides = λ f l. s.faces f (in_count m.counts.faces m.adjacency f z.adjacency l) }

pub sound_peers : (m : Mesh) (codes : List ℕ) → length codes ≡ 2 * m.counts.faces → Sound m codes → PeersIn codes m.counts.faces
sound_peers m codes e s = record { codes = e; peers = λ f l. peer_below m.adjacency codes m.counts.faces f e (s.links f l) }

pub good : (m : Mesh) (k : Conditions) → checks m k ≡ accepted → Good m k
unfolding checks first_of
good m k e =
    let one = both_accepted (pass BadSize (sizes_ok m.counts)) _ e in
    let two = both_accepted (pass WrongLength (mesh_sized m && conditions_sized m.counts.faces k.codes k.values)) _ one.1 in
    let three = both_accepted (pass OtherMesh (eqb k.number m.counts.mesh)) _ two.1 in
    let rest = both_accepted (whole_mesh m k.codes) accepted three.1 in
    let lengths = and_true (mesh_sized m) (conditions_sized m.counts.faces k.codes k.values) (passed WrongLength _ two.0) in
    let own = and_true (eqb (length k.codes) (2 * m.counts.faces)) (eqb (length k.values) (4 * m.counts.faces)) lengths.1 in
    let z = sized m lengths.0 in
    let w = whole m k.codes z (eqb-true _ _ own.0) rest.0 in
    record {
      small = small m.counts (passed BadSize _ one.0);
      sized = z;
      codes = eqb-true _ _ own.0;
      values = eqb-true _ _ own.1;
      same = eqb-true _ _ (passed OtherMesh _ three.0);
      sound = w.0;
      carried = w.1;
    }
