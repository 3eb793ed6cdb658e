-- The normal matrix of a stencil: a sum of outer products, and its inverse, which a singular matrix does not have. Definitions only.
use Rattle.std.specs.Prelude.{Bool, List, [], ◌∷◌, cond, ℕ, eqb, Float, Option, None, Some}
use Rattle.std.specs.Float.{binary64}
use Rattle.std.specs.List.{list_all}
use Rattle.binary64.specs.Root.{root}
use Rattle.binary64.specs.Numbers.{zero64, one64, eps, is_finite, magnitude, larger, ◌⊕◌, ◌⊖◌, ◌⊗◌, ◌⊘◌}
use Rattle.vector.specs.Vector.{vec}
use Rattle.vector.specs.declared.Vec3.{Vec3}
use Rattle.matrix.specs.declared.Normal.{Normal}
use Rattle.matrix.specs.declared.Lower.{Lower}
use Rattle.std.specs.Float.Ieee as Ieee

abbrev pub nine : Float → Float → Float → Float → Float → Float → Float → Float → Float → Normal
nine a b c d e f g h i = record { xx = a; xy = b; xz = c; yx = d; yy = e; yz = f; zx = g; zy = h; zz = i }

abbrev pub zero9 : Normal
zero9 = nine zero64 zero64 zero64 zero64 zero64 zero64 zero64 zero64 zero64

-- n + a ⊗ b, entry by entry
unfoldable pub outer : Normal → Vec3 → Vec3 → Normal
outer n a b =
    nine (n.xx ⊕ a.x ⊗ b.x) (n.xy ⊕ a.x ⊗ b.y) (n.xz ⊕ a.x ⊗ b.z)
    (n.yx ⊕ a.y ⊗ b.x) (n.yy ⊕ a.y ⊗ b.y) (n.yz ⊕ a.y ⊗ b.z)
    (n.zx ⊕ a.z ⊗ b.x) (n.zy ⊕ a.z ⊗ b.y) (n.zz ⊕ a.z ⊗ b.z)

abbrev pub numbers : Normal → List Float
numbers n = n.xx ∷ n.xy ∷ n.xz ∷ n.yx ∷ n.yy ∷ n.yz ∷ n.zx ∷ n.zy ∷ n.zz ∷ []

unfoldable pub all_finite : Normal → Bool
all_finite n = list_all is_finite (numbers n)

-- in 2D: by the determinant, of the four numbers of x and y
unfoldable pub inverse2 : Normal → Option Normal
inverse2 n =
    let determinant = n.xx ⊗ n.yy ⊖ n.xy ⊗ n.yx in
    let scale = larger (larger (magnitude n.xx) (magnitude n.yy)) one64 in
    cond (Ieee.le (magnitude determinant) (eps ⊗ scale ⊗ scale)) None
    (Some
    (nine (n.yy ⊘ determinant) (Ieee.neg n.xy ⊘ determinant) zero64
    (Ieee.neg n.yx ⊘ determinant) (n.xx ⊘ determinant) zero64 zero64 zero64 zero64))

abbrev pub sixty_four : Float
sixty_four = Ieee.of_bits binary64 0x4050000000000000

-- in 3D: the root of a pivot that is finite and above 64 EPS × scale
unfoldable pub pivot : Float → Float → Option Float
pivot value scale =
    cond (is_finite value) (cond (Ieee.le value (sixty_four ⊗ eps ⊗ scale)) None (Some (root value))) None

unfoldable pub lower_factor : Float → Float → Float → Float → Float → Float → Lower
lower_factor a b c d e f = record { a = a; b = b; c = c; d = d; e = e; f = f }

-- a column of the inverse, from the rows a; b c; d e f of the lower factor: forward, then back
unfoldable pub solve : Lower → Vec3 → Vec3
solve l v =
    let p = v.x ⊘ l.a in
    let q = (v.y ⊖ l.b ⊗ p) ⊘ l.c in
    let r = (v.z ⊖ l.d ⊗ p ⊖ l.e ⊗ q) ⊘ l.f in
    let z = r ⊘ l.f in
    let y = (q ⊖ l.e ⊗ z) ⊘ l.c in
    let x = (p ⊖ l.b ⊗ y ⊖ l.d ⊗ z) ⊘ l.a in
    vec x y z

unfoldable pub columns : Lower → Normal
columns l =
    let u = solve l (vec one64 zero64 zero64) in
    let v = solve l (vec zero64 one64 zero64) in
    let w = solve l (vec zero64 zero64 one64) in
    nine u.x v.x w.x u.y v.y w.y u.z v.z w.z

-- what follows a pivot that is fit
unfoldable pub with_root : Option Float → (Float → Option Normal) → Option Normal
with_root None k = None
with_root (Some r) k = k r

-- Cholesky's factors row by row; each pivot is tested before its root is taken
unfoldable pub factored : Normal → Float → Option Normal
factored n scale =
    with_root (pivot n.xx scale)
    (λ a.
    let b = n.yx ⊘ a in
    with_root (pivot (n.yy ⊖ b ⊗ b) scale)
    (λ c.
    let d = n.zx ⊘ a in
    let e = (n.zy ⊖ d ⊗ b) ⊘ c in
    with_root (pivot (n.zz ⊖ d ⊗ d ⊖ e ⊗ e) scale) (λ f. Some (columns (lower_factor a b c d e f)))))

unfoldable pub inverse3 : Normal → Option Normal
inverse3 n =
    let scale = larger (larger (magnitude n.xx) (magnitude n.yy)) (magnitude n.zz) in
    cond (is_finite scale) (cond (Ieee.le scale zero64) None (factored n scale)) None

unfoldable pub inverse : ℕ → Normal → Option Normal
inverse dimension n = cond (all_finite n) (cond (eqb dimension 2) (inverse2 n) (inverse3 n)) None
