-- The voices of an ensemble as the rules see them, and the array that holds them. Assumes nothing.
use Rattle.std.proofs.Common.{◌≡◌, ℕ, zero, suc, ◌<◌, List, [], ◌∷◌, map, length, get_or, take, set, replicate, refl, ap, ◌∙◌, ap₂, le_of_suc-le-suc, not-suc-le-zero, arith, length-take-le, get_or-take}
use lib.ListN.{length-map}
use lib.Seq.{take-set-lt}
use Rattle.ensemble.specs.declared.Member.{Member}
use Rattle.columns.proofs.Places.{get_or_map_in}
use Rattle.ensemble_calls.specs.Ensembles.{VoiceRecord, no_record, record_at}
use Rattle.ensemble_player.specs.declared.Ensemble.{Ensemble}
use Rattle.ensemble_player.specs.Ensembles.{record_of, state_of, Valid}

-- what stands past the end does not matter before it
pub get_or_before : {A : Type 0} (l : List A) (i : ℕ) (d d' : A) → i < length l → get_or l i d ≡ get_or l i d'
get_or_before [] i d d' h = absurd (not-suc-le-zero h)
get_or_before (x ∷ l) zero d d' h = refl
get_or_before (x ∷ l) (suc i) d d' h = get_or_before l i d d' (le_of_suc-le-suc h)

pub map_set : {A B : Type 0} (f : A → B) (l : List A) (i : ℕ) (a : A) → map f (set l i a) ≡ set (map f l) i (f a)
map_set f [] i a = refl
map_set f (x ∷ l) zero a = refl
map_set f (x ∷ l) (suc i) a = ap (λ t. f x ∷ t) (map_set f l i a)

module _ (e : Ensemble) (valid : Valid e) where
  pub count_is : length (state_of e).voices ≡ e.count
  count_is = length-map (take e.count e.decks.members) record_of ∙ length-take-le e.count e.decks.members (omega (arith, valid.listed, valid.few))

  pub voice_at : (v : ℕ) → v < e.count → (d : Member) → record_at (state_of e) v ≡ record_of (get_or e.decks.members v d)
  voice_at v h d =
      get_or_map_in record_of (take e.count e.decks.members) v d no_record (omega (arith, length-take-le e.count e.decks.members (omega (arith, valid.listed, valid.few))))
      ∙ ap record_of (get_or-take e.count e.decks.members v d h)

-- one voice is another
pub voices_set : (count v : ℕ) (l : List Member) (m : Member) → v < count → map record_of (take count (set l v m)) ≡ set (map record_of (take count l)) v (record_of m)
voices_set count v l m h = ap (map record_of) (take-set-lt count l v m h) ∙ map_set record_of (take count l) v m

-- ---- lists of voices

pub map_through : {B : Type 0} (g : Member → B) (h : VoiceRecord → B) → ((m : Member) → g m ≡ h (record_of m)) → (l : List Member) → map g l ≡ map h (map record_of l)
map_through g h same [] = refl
map_through g h same (m ∷ l) = ap₂ (λ a t. a ∷ t) (same m) (map_through g h same l)

pub map_one : {A B : Type 0} (g : A → B) (z : B) → ((a : A) → g a ≡ z) → (l : List A) → map g l ≡ replicate (length l) z
map_one g z same [] = refl
map_one g z same (a ∷ l) = ap₂ (λ b t. b ∷ t) (same a) (map_one g z same l)

pub map_map : {A B C : Type 0} (g : B → C) (f : A → B) (l : List A) → map g (map f l) ≡ map (λ a. g (f a)) l
map_map g f [] = refl
map_map g f (a ∷ l) = ap (λ t. g (f a) ∷ t) (map_map g f l)

pub take_map : {A B : Type 0} (f : A → B) (n : ℕ) (l : List A) → take n (map f l) ≡ map f (take n l)
take_map f zero l = refl
take_map f (suc n) [] = refl
take_map f (suc n) (a ∷ l) = ap (λ t. f a ∷ t) (take_map f n l)
