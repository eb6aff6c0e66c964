-- The nearest of a list of items, and of what they stand for.
use Rattle.std.proofs.Common.{◌≡◌, ◌⊎◌, ℕ, zero, suc, ◌<◌, ◌≤◌, ◌&&◌, nat_le, nat_lt, Bool}
use Rattle.std.proofs.Common.{true, false, cond, List, [], ◌∷◌}
use Rattle.std.proofs.Common.{Option, Some, None, All, Contains, map, option_map, refl, sym, ap, ◌∙◌}
use Rattle.std.proofs.Common.{subst, inl, inr, arith}
use Rattle.std.proofs.lemmas.Bool.{cases_Bool}
use Rattle.std.proofs.lemmas.Bool.Decides.{nat_tests}
use Rattle.std.proofs.lemmas.List.Elements.{All-head, All-tail}
use Rattle.symbols.specs.Nearest.{nearer, nearest}
use Rattle.symbols.specs.declared.entry.Entry.{Entry}
use Rattle.symbols.specs.steps.Entries.{IsUpTo}
use Rattle.symbols.specs.steps.Found.{IsLastUpTo}

map_choice : {X Y : Type 0} (f : X → Y) (b : Bool) (u v : Option X)
    → cond b (option_map f u) (option_map f v) ≡ option_map f (cond b u v)
map_choice f true u v = refl
map_choice f false u v = refl

nearer-map : {X Y : Type 0} (f : X → Y) (address : Y → ℕ) (place : ℕ) (x : X) (o : Option X)
    → nearer address place (f x) (option_map f o) ≡ option_map f (nearer (λ y. address (f y)) place x o)
nearer-map f address place x None = map_choice f (nat_le (address (f x)) place) (Some x) None
nearer-map f address place x (Some y) =
    map_choice f (nat_le (address (f x)) place && nat_lt (address (f y)) (address (f x))) (Some x) (Some y)

-- The nearest of the values of items is the value of the nearest item.
pub nearest-map : {X Y : Type 0} (f : X → Y) (address : Y → ℕ) (place : ℕ) (xs : List X)
    → nearest address place (map f xs) ≡ option_map f (nearest (λ x. address (f x)) place xs)
nearest-map f address place [] = refl
nearest-map f address place (x ∷ xs) =
    ap (nearer address place (f x)) (nearest-map f address place xs)
    ∙ nearer-map f address place x (nearest (λ y. address (f y)) place xs)

-- The nearest entry.
abbrev pub nearest_entry : ℕ → List Entry → Option Entry
nearest_entry place entries = nearest (λ entry. entry.address) place entries

-- An entry is one of these.
abbrev IsIn : Entry → List Entry → Type 0
IsIn e [] = ⊥
IsIn e (x ∷ xs) = (x ≡ e) ⊎ IsIn e xs

IsIn-contained : (xs : List Entry) (e : Entry) → Contains xs e → IsIn e xs
IsIn-contained [] e (k, low, is) = absurd (omega (arith, low))
IsIn-contained (x ∷ xs) e (zero, low, is) = inl is
IsIn-contained (x ∷ xs) e (suc k, low, is) = inr (IsIn-contained xs e (k, omega (arith, low), is))

-- The names begin further and further behind.
abbrev pub AreRising : List Entry → Type 0
AreRising [] = Unit {0}
AreRising (x ∷ xs) = All (λ other. x.start < other.start) xs × AreRising xs

All-in : (P : Entry → Type 0) (xs : List Entry) (e : Entry) → All P xs → IsIn e xs → P e
All-in P [] e all in_none = absurd in_none
All-in P (x ∷ xs) e all (inl is) = subst P is (All-head P x xs all)
All-in P (x ∷ xs) e all (inr later) = All-in P xs e (All-tail P x xs all) later

-- The entry that was found is one of those at or below the place.
abbrev IsFound : ℕ → List Entry → Option Entry → Type 0
IsFound place xs None = Unit {0}
IsFound place xs (Some e) = IsIn e xs × (e.address ≤ place)

found_nearer : (place : ℕ) (x : Entry) (xs : List Entry) (o : Option Entry) → IsFound place xs o
    → IsFound place (x ∷ xs) (nearer (λ entry. entry.address) place x o)
found_nearer place x xs None h = elim (cases_Bool (nat_le x.address place)) [
  | inl low ↦ let below : x.address ≤ place = grind (arith, nat_tests) in rw low (inl refl, below)
  | inr high ↦ rw high tt
]
found_nearer place x xs (Some o) h =
    elim (cases_Bool (nat_le x.address place && nat_lt o.address x.address)) [
      | inl near ↦ let below : x.address ≤ place = grind (arith, nat_tests) in rw near (inl refl, below)
      | inr far ↦ rw far (inr h.0, h.1)
    ]

found : (place : ℕ) (xs : List Entry) → IsFound place xs (nearest_entry place xs)
found place [] = tt
found place (x ∷ xs) = found_nearer place x xs (nearest_entry place xs) (found place xs)

-- No entry is nearer where all stand above the place.
pub nearest_none : (place : ℕ) (xs : List Entry) → All (λ other. place < other.address) xs
    → nearest_entry place xs ≡ None
nearest_none place [] all = refl
nearest_none place (x ∷ xs) all =
    let above = All-head (λ other. place < other.address) x xs all in
    let test : nat_le x.address place ≡ false = grind (arith, nat_tests) in
    ap (nearer (λ entry. entry.address) place x)
    (nearest_none place xs (All-tail (λ other. place < other.address) x xs all)) ∙ ap (λ b. cond b (Some x) None) test

abbrev Before : ℕ → Entry → Entry → Type 0
Before place e other = (place < other.address) ⊎ IsUpTo other e

-- The last of the entries at or below the place, against what was found of those behind it.
last_first : (place : ℕ) (e : Entry) (xs : List Entry) (o : Option Entry) → IsFound place xs o → e.address ≤ place
    → All (Before place e) xs → All (λ other. e.start < other.start) xs
    → nearer (λ entry. entry.address) place e o ≡ Some e
last_first place e xs None h low before rising =
    let test : nat_le e.address place ≡ true = grind (arith, nat_tests) in ap (λ b. cond b (Some e) None) test
last_first place e xs (Some o) h low before rising =
    let later = All-in (λ other. e.start < other.start) xs o rising h.0 in
    let below : o.address < e.address = elim (All-in (Before place e) xs o before h.0) [
      | inl above ↦ absurd (omega (arith, above, h.1))
      | inr upto ↦ elim upto [
        | inl less ↦ less
        | inr same ↦ absurd (omega (arith, same.1, later))
      ]
    ] in
    let test : (nat_le e.address place && nat_lt o.address e.address) ≡ true = grind (arith, nat_tests) in
    ap (λ b. cond b (Some e) (Some o)) test

-- The last of the entries at or below the place is the nearest.
pub nearest_some : (place : ℕ) (xs : List Entry) (e : Entry) → IsIn e xs → e.address ≤ place
    → All (Before place e) xs → AreRising xs → nearest_entry place xs ≡ Some e
nearest_some place [] e in_none low before rising = absurd in_none
nearest_some place (x ∷ xs) e (inl is) low before rising =
    let P : Entry → Type 0 = λ y. y.address ≤ place in
    let Q : Entry → Type 0 = λ y. All (Before place y) (x ∷ xs) in
    let here : nearest_entry place (x ∷ xs) ≡ Some x =
    last_first place x xs (nearest_entry place xs) (found place xs) (subst P (sym is) low)
    (All-tail (Before place x) x xs (subst Q (sym is) before)) rising.0 in
    here ∙ ap (λ y. Some y) is
nearest_some place (x ∷ xs) e (inr later) low before rising =
    let test : (nat_le x.address place && nat_lt e.address x.address) ≡ false =
    elim (All-head (Before place e) x xs before) [
      | inl above ↦ grind (arith, nat_tests)
      | inr upto ↦ elim upto [ inl less ↦ grind (arith, nat_tests) | inr same ↦ grind (arith, nat_tests) ]
    ] in
    ap (nearer (λ entry. entry.address) place x)
    (nearest_some place xs e later low (All-tail (Before place e) x xs before) rising.1)
    ∙ ap (λ b. cond b (Some x) (Some e)) test

-- What a search found among entries, in any order, is the nearest of them in the order of the file.
pub nearest_found : (place : ℕ) (xs : List Entry) (r : Option Entry) → AreRising xs → IsLastUpTo xs place r
    → nearest_entry place xs ≡ r
nearest_found place xs None rising h = nearest_none place xs h
nearest_found place xs (Some e) rising h = nearest_some place xs e (IsIn-contained xs e h.0) h.1 h.2 rising
