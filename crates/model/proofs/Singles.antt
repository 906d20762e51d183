-- The formula of a group: one clause to a member.
use Rattle.std.proofs.Common.{◌≡◌, ℕ, zero, suc, ◌*◌, ◌/◌, ◌%◌, ◌^◌, ◌<◌, ◌≤◌, List, [], ◌∷◌, map, sym, ap, ◌∙◌, pow-suc, arith}
use lib.Bits.{bit_and, and_step, and_zero_l}
use Rattle.clause.specs.Meaning.{Meets}
use Rattle.std.specs.List.{AllByRecursion}

-- party 0, when it is there
first : ℕ → List ℕ → List ℕ
first zero rest = rest
first (suc _) rest = 1 ∷ rest

-- one clause to a member
pub singles : ℕ → ℕ → List ℕ
singles zero group = []
singles (suc k) group = first (group % 2) (map (λ c. c * 2) (singles k (group / 2)))

shifted_and : (c g : ℕ) → bit_and (c * 2) g ≡ bit_and c (g / 2) * 2
shifted_and c g =
    let a : (c * 2) / 2 ≡ c = omega arith in
    let b : bit_and ((c * 2) / 2) (g / 2) ≡ bit_and c (g / 2) = ap (λ x. bit_and x (g / 2)) a in
    omega (arith, and_step (c * 2) g)

one_and : (g : ℕ) → bit_and 1 g ≡ g % 2
one_and g = omega (arith, and_step 1 g, and_zero_l (g / 2))

down : (cs : List ℕ) (g : ℕ) → Meets (map (λ c. c * 2) cs) g → Meets cs (g / 2)
down [] g m = tt
down (c ∷ cs) g m = (λ e. m.0 (omega (arith, shifted_and c g)), down cs g m.1)

up : (cs : List ℕ) (g : ℕ) → Meets cs (g / 2) → Meets (map (λ c. c * 2) cs) g
up [] g m = tt
up (c ∷ cs) g m = (λ e. m.0 (omega (arith, shifted_and c g)), up cs g m.1)

-- a group that meets each one-party clause of another contains it
first_holds : (b g : ℕ) (rest : List ℕ) → b < 2 → Meets (first b rest) g → (b ≤ g % 2) × Meets rest g
unfolding first
first_holds zero g rest h m = (omega arith, m)
first_holds (suc b) g rest h m = let n : g % 2 ≡ 0 → ⊥ = λ e. m.0 (one_and g ∙ e) in (omega arith, m.1)

first_meets : (b g : ℕ) (rest : List ℕ) → b ≤ g % 2 → Meets rest g → Meets (first b rest) g
unfolding first
first_meets zero g rest h m = m
first_meets (suc b) g rest h m = (λ e. omega (arith, one_and g), m)

pub singles_hold : (k g other : ℕ) → g < 2 ^ k → Meets (singles k g) other → bit_and g other ≡ g
unfolding singles
singles_hold zero g other h m = let z : g ≡ 0 = omega arith in ap (λ x. bit_and x other) z ∙ sym z
singles_hold (suc k) g other h m =
    let p : 2 ^ suc k ≡ 2 ^ k * 2 = pow-suc 2 k in
    let w = first_holds (g % 2) other (map (λ c. c * 2) (singles k (g / 2))) (omega arith) m in
    let ih = singles_hold k (g / 2) (other / 2) (omega arith) (down (singles k (g / 2)) other w.1) in
    omega (arith, and_step g other, w.0)

pub singles_meet : (k g : ℕ) → Meets (singles k g) g
unfolding singles
singles_meet zero g = tt
singles_meet (suc k) g = first_meets (g % 2) g (map (λ c. c * 2) (singles k (g / 2))) (omega arith) (up (singles k (g / 2)) g (singles_meet k (g / 2)))

doubled_fit : (k : ℕ) (cs : List ℕ) → AllByRecursion (λ c. c < 2 ^ k) cs → AllByRecursion (λ c. c < 2 ^ suc k) (map (λ c. c * 2) cs)
doubled_fit k [] m = tt
doubled_fit k (c ∷ cs) m = let p : 2 ^ suc k ≡ 2 ^ k * 2 = pow-suc 2 k in (omega (arith, m.0), doubled_fit k cs m.1)

first_fits : (b n : ℕ) (rest : List ℕ) → 1 < n → AllByRecursion (λ c. c < n) rest → AllByRecursion (λ c. c < n) (first b rest)
unfolding first
first_fits zero n rest h m = m
first_fits (suc b) n rest h m = (h, m)

one_below : (k : ℕ) → 1 < 2 ^ suc k
one_below zero = omega arith
one_below (suc k) = let p : 2 ^ suc (suc k) ≡ 2 ^ suc k * 2 = pow-suc 2 (suc k) in omega (arith, one_below k)

pub singles_fit : (k g : ℕ) → AllByRecursion (λ c. c < 2 ^ k) (singles k g)
unfolding singles
singles_fit zero g = tt
singles_fit (suc k) g = first_fits (g % 2) (2 ^ suc k) (map (λ c. c * 2) (singles k (g / 2))) (one_below k) (doubled_fit k (singles k (g / 2)) (singles_fit k (g / 2)))
