-- What an option is, by what is made of it.
use Rattle.std.proofs.Common.{◌≡◌, refl}
use Rattle.std.specs.Prelude.{Option, Some, None, IsSome, option_and_then, option_map, is_some, Bool, true, false, if◌then◌else◌}

pub some_then : {A B : Type 0} (o : Option A) (f : A → Option B) (b : B) → option_and_then f o ≡ Some b → (a : A) × (o ≡ Some a) × (f a ≡ Some b)
some_then None f b is = absurd cc
some_then (Some a) f b is = (a, refl, is)

pub some_map : {A B : Type 0} (o : Option A) (f : A → B) (b : B) → option_map f o ≡ Some b → (a : A) × (o ≡ Some a) × (f a ≡ b)
some_map None f b is = absurd cc
some_map (Some a) f b is = (a, refl, cc)

pub some_is : {A : Type 0} (o : Option A) → IsSome o → (value : A) × (o ≡ Some value)
some_is None some = absurd cc
some_is (Some value) some = (value, refl)

pub none_then : {A B : Type 0} (o : Option A) {f : A → Option B} → ((a : A) → f a ≡ None) → option_and_then f o ≡ None
none_then None none = refl
none_then (Some a) none = none a

pub none_is : {A : Type 0} (o : Option A) → is_some o ≡ false → o ≡ None
none_is None none = refl
none_is (Some value) none = absurd cc

pub then_some : {A : Type 0} (test : Bool) (o : Option A) (a : A) → (if test then o else None) ≡ Some a → o ≡ Some a
then_some true o a is = is
then_some false o a is = absurd cc

pub none_either : {A : Type 0} (test : Bool) (other : Option A) → other ≡ None → (if test then None else other) ≡ None
none_either true other none = refl
none_either false other none = none
