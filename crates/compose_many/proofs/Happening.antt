-- Events one after another.
use Rattle.std.proofs.Common.{◌≡◌, ℕ, ◌+◌, List, [], ◌∷◌, ◌++◌, Bool, true, false, cond, length, map, refl, sym, ◌∙◌, ap, subst, append_assoc, append-nil, length-append}
use Rattle.std.specs.Prelude.{flat_map, filter}
use Rattle.compose_machine.specs.Machine.{ServiceState, Reading}
use Rattle.compose_machine.specs.Laws.{Exchange, IsHistory, is_load}
use Rattle.compose_many.specs.Connection.{ConnectionState, Event, answers, Happens, AllHappen, exchange_of, exchanges, loads}

-- if two lists are empty together, the second is empty
pub behind_nothing : (xs ys : List ℕ) → xs ++ ys ≡ [] → ys ≡ []
behind_nothing [] ys e = e
behind_nothing (x ∷ xs) ys e = absurd (cc)

-- flattening two lists, one after the other, is flattening the first and then the second
pub flat-both : {X Y : Type 0} (f : X → List Y) (xs ys : List X) → flat_map f (xs ++ ys) ≡ flat_map f xs ++ flat_map f ys
flat-both f [] ys = refl
flat-both f (x ∷ xs) ys = ap (λ r. f x ++ r) (flat-both f xs ys) ∙ sym (append_assoc (f x) (flat_map f xs) (flat_map f ys))

-- flattening a list and one more element is flattening the list and then that element
pub flat-more : {X Y : Type 0} (f : X → List Y) (xs : List X) (x : X) → flat_map f (xs ++ x ∷ []) ≡ flat_map f xs ++ f x
flat-more f xs x = flat-both f xs (x ∷ []) ∙ ap (λ r. flat_map f xs ++ r) (append-nil (f x))

-- mapping two lists, one after the other, is mapping the first and then the second
pub map-both : {X Y : Type 0} (f : X → Y) (xs ys : List X) → map f (xs ++ ys) ≡ map f xs ++ map f ys
map-both f [] ys = refl
map-both f (x ∷ xs) ys = ap (λ r. f x ∷ r) (map-both f xs ys)

-- filtering two lists, one after the other, is filtering the first and then the second
pub filter-both : {X : Type 0} (p : X → Bool) (xs ys : List X) → filter p (xs ++ ys) ≡ filter p xs ++ filter p ys
filter-both p [] ys = refl
filter-both p (x ∷ xs) ys = kept (p x) ∙ ap (λ zs. cond (p x) (x ∷ zs) zs) (filter-both p xs ys) ∙ sym (moved (p x))
  where
    kept : (b : Bool) → cond b (x ∷ filter p (xs ++ ys)) (filter p (xs ++ ys)) ≡ cond b (x ∷ filter p (xs ++ ys)) (filter p (xs ++ ys))
    kept b = refl

    moved : (b : Bool) → cond b (x ∷ filter p xs) (filter p xs) ++ filter p ys ≡ cond b (x ∷ (filter p xs ++ filter p ys)) (filter p xs ++ filter p ys)
    moved true = refl
    moved false = refl

-- the loads of both are those of the first and those of the second
pub loads-both : (es fs : List Event) → loads (es ++ fs) ≡ loads es + loads fs
loads-both es fs =
    ap (λ (h : List Exchange). length (filter (λ (x : Exchange). is_load x.request.body) h)) (flat-both exchange_of es fs)
    ∙ ap (λ (h : List Exchange). length h) (filter-both (λ (x : Exchange). is_load x.request.body) (exchanges es) (exchanges fs))
    ∙ length-append (filter (λ (x : Exchange). is_load x.request.body) (exchanges es)) (filter (λ (x : Exchange). is_load x.request.body) (exchanges fs))

-- one more answered request is one more load if it is one
pub loads-more : (es : List Event) (x : Exchange) (n : ℕ) (b : Bool) → is_load x.request.body ≡ b → loads es ≡ n → loads (es ++ answers x ∷ []) ≡ n + cond b 1 0
loads-more es x n b l e =
    loads-both es (answers x ∷ []) ∙ ap (λ m. m + loads (answers x ∷ [])) e ∙ ap (λ m. n + m) (one (is_load x.request.body) ∙ ap (λ c. cond c 1 0) l)
  where
    one : (c : Bool) → length (cond c (x ∷ []) []) ≡ cond c 1 0
    one true = refl
    one false = refl

pub history-both : (reading : Reading) (old mid new : ServiceState) (g h : List Exchange) → IsHistory reading old g mid → IsHistory reading mid h new → IsHistory reading old (g ++ h) new
history-both reading old mid new [] h a b = subst (λ (s : ServiceState). IsHistory reading s h new) a b
history-both reading old mid new (x ∷ g) h a b = (a.0, a.1, history-both reading a.0 mid new g h a.2 b)

-- the exchanges of both
pub run-both : (reading : Reading) (old mid new : ServiceState) (es fs : List Event) → IsHistory reading old (exchanges es) mid → IsHistory reading mid (exchanges fs) new
    → IsHistory reading old (exchanges (es ++ fs)) new
run-both reading old mid new es fs a b =
    subst (λ (h : List Exchange). IsHistory reading old h new) (sym (flat-both exchange_of es fs)) (history-both reading old mid new (exchanges es) (exchanges fs) a b)

-- events, and further ones from the state that these leave, happen one after another
pub happen-both : (limit : ℕ) (a b c : ConnectionState) (es fs : List Event) → AllHappen limit a es b → AllHappen limit b fs c → AllHappen limit a (es ++ fs) c
happen-both limit a b c [] fs x y = subst (λ (s : ConnectionState). AllHappen limit s fs c) x y
happen-both limit a b c (e ∷ es) fs x y = (x.0, x.1, happen-both limit x.0 b c es fs x.2 y)

-- events, and one more from the state that these leave, happen one after another
pub happen-more : (limit : ℕ) (a b c : ConnectionState) (es : List Event) (e : Event) → AllHappen limit a es b → Happens limit b e c → AllHappen limit a (es ++ e ∷ []) c
happen-more limit a b c es e x y = happen-both limit a b c es (e ∷ []) x (c, y, refl)
