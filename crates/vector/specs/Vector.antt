-- Records of three floats, in the Rust's order of operations. Definitions only.
use Rattle.std.specs.Prelude.{List, [], ◌∷◌, ◌++◌, cond, ℕ, zero, suc, ◌+◌, ◌*◌, get_or, set, Float}
use Rattle.std.specs.Float.{nan}
use Rattle.std.specs.Float.Ieee.{neg, lt}
use Rattle.binary64.specs.Numbers.{zero64, ◌⊕◌, ◌⊖◌, ◌⊗◌, ◌⊘◌}
use Rattle.binary64.specs.Root.{root}
use Rattle.vector.specs.declared.Vec3.{Vec3}

abbrev pub vec : Float → Float → Float → Vec3
vec x y z = record { x = x; y = y; z = z }

abbrev pub zero3 : Vec3
zero3 = vec zero64 zero64 zero64

unfoldable pub dot : Vec3 → Vec3 → Float
dot a b = a.x ⊗ b.x ⊕ a.y ⊗ b.y ⊕ a.z ⊗ b.z

abbrev pub norm_squared : Vec3 → Float
norm_squared a = dot a a

abbrev pub norm : Vec3 → Float
norm a = root (dot a a)

-- the largest of the components and of their negations
unfoldable pub greater : Float → Float → Float
greater a b = cond (lt a b) b a

unfoldable pub longest : Vec3 → Float
longest a = greater (greater a.x (greater a.y a.z)) (greater (neg a.x) (greater (neg a.y) (neg a.z)))

unfoldable pub sum : Vec3 → Vec3 → Vec3
sum a b = vec (a.x ⊕ b.x) (a.y ⊕ b.y) (a.z ⊕ b.z)

unfoldable pub difference : Vec3 → Vec3 → Vec3
difference a b = vec (a.x ⊖ b.x) (a.y ⊖ b.y) (a.z ⊖ b.z)

unfoldable pub negated : Vec3 → Vec3
negated a = vec (neg a.x) (neg a.y) (neg a.z)

unfoldable pub scaled : Vec3 → Float → Vec3
scaled a s = vec (a.x ⊗ s) (a.y ⊗ s) (a.z ⊗ s)

unfoldable pub quotient : Vec3 → Float → Vec3
quotient a s = vec (a.x ⊘ s) (a.y ⊘ s) (a.z ⊘ s)

-- ---- vectors in flat lists, three numbers each; a missing number counts as a NaN

-- the three numbers from the place b on
abbrev pub vector_at : List Float → ℕ → Vec3
vector_at s b = vec (get_or s b nan) (get_or s (b + 1) nan) (get_or s (b + 2) nan)

-- the numbers of the vectors h 0, .., h (n - 1), three of each, and a list with one of them written
unfoldable pub vectors_of : (ℕ → Vec3) → ℕ → List Float
vectors_of h zero = []
vectors_of h (suc n) = vectors_of h n ++ ((h n).x ∷ (h n).y ∷ (h n).z ∷ [])

abbrev pub put_vector : List Float → ℕ → Vec3 → List Float
put_vector l i v = set (set (set l (3 * i) v.x) (3 * i + 1) v.y) (3 * i + 2) v.z

-- and with one added to that in its place
abbrev pub add_vector : List Float → ℕ → Vec3 → List Float
add_vector l i v = put_vector l i (sum (vector_at l (3 * i)) v)
