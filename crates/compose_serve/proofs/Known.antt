-- How known bytes grow and shrink in steps.
use Rattle.std.proofs.Common.{◌≡◌, ◌≢◌, ◌<◌, arith, ℕ, ◌+◌, ◌-◌, List, [], ◌++◌, length-append, refl, sym, ◌∙◌, ap, append_assoc, append-nil, length, take, drop, length-drop}
use Rattle.compose_serve.specs.Streams.{SameStream}
use Rattle.std.proofs.Math.Seq.{take-add, take-length}
use Rattle.std.specs.Prelude.{Option, Some, None}
use Rattle.std.specs.Io.KnownBytes.{Appends, Keeps, Consumes}

-- what is written stays the same if nothing is appended
pub Appends-nothing : (o : Option (List ℕ)) → Appends o o []
Appends-nothing None = tt
Appends-nothing (Some xs) = sym (append-nil xs)

-- one piece appended, and then another, are both of them appended
pub Appends-then : (a b c : Option (List ℕ)) (xs ys : List ℕ) → Appends a b xs → Appends b c ys → Appends a c (xs ++ ys)
Appends-then None b c xs ys h k = tt
Appends-then (Some ks) None c xs ys h k = absurd h
Appends-then (Some ks) (Some bs) None xs ys h k = absurd k
Appends-then (Some ks) (Some bs) (Some cs) xs ys h k = k ∙ ap (λ l. l ++ ys) h ∙ append_assoc ks xs ys

pub Appends-Keeps : (a b c : Option (List ℕ)) (xs : List ℕ) → Appends a b xs → Keeps b c → Appends a c xs
Appends-Keeps None b c xs h k = tt
Appends-Keeps (Some ks) None c xs h k = absurd h
Appends-Keeps (Some ks) (Some bs) None xs h k = absurd k
Appends-Keeps (Some ks) (Some bs) (Some cs) xs h k = k ∙ h

pub Consumes-nothing : (o : Option (List ℕ)) → Consumes o o []
Consumes-nothing None = tt
Consumes-nothing (Some xs) = refl

pub Consumes-then : (a b c : Option (List ℕ)) (xs ys : List ℕ) → Consumes a b xs → Consumes b c ys → Consumes a c (xs ++ ys)
Consumes-then None b c xs ys h k = tt
Consumes-then (Some ks) None c xs ys h k = absurd h
Consumes-then (Some ks) (Some bs) None xs ys h k = absurd k
Consumes-then (Some ks) (Some bs) (Some cs) xs ys h k = h ∙ ap (λ l. xs ++ l) k ∙ sym (append_assoc xs ys cs)

-- the first d, and then the first n of what is left, are the first d + n
pub take-piece : (d n : ℕ) (bs : List ℕ) → take d bs ++ take n (take (length bs - d) (drop d bs)) ≡ take (d + n) bs
take-piece d n bs =
    ap (λ m. take d bs ++ take n (take m (drop d bs))) (sym (length-drop d bs)) ∙ ap (λ l. take d bs ++ take n l) (take-length (drop d bs)) ∙ sym (take-add d n bs)

pub SameStream-same : (k : List ℕ) (o : Option (List ℕ)) → SameStream k o k o
SameStream-same k None = tt
SameStream-same k (Some xs) = refl

pub SameStream-then : (k l m : List ℕ) (a b c : Option (List ℕ)) → SameStream k a l b → SameStream l b m c → SameStream k a m c
SameStream-then k l m None b c h j = tt
SameStream-then k l m (Some xs) None c h j = absurd h
SameStream-then k l m (Some xs) (Some ys) None h j = absurd j
SameStream-then k l m (Some xs) (Some ys) (Some zs) h j = j ∙ h

-- bytes that were consumed and kept leave the stream as it was
pub SameStream-kept : (k bs : List ℕ) (a b : Option (List ℕ)) → Consumes a b bs → SameStream k a (k ++ bs) b
SameStream-kept k bs None b h = tt
SameStream-kept k bs (Some xs) None h = absurd h
SameStream-kept k bs (Some xs) (Some ys) h = append_assoc k bs ys ∙ ap (λ l. k ++ l) (sym h)

pub SameStream-Keeps : (k : List ℕ) (a b : Option (List ℕ)) → Keeps a b → SameStream k a k b
SameStream-Keeps k None b h = tt
SameStream-Keeps k (Some xs) None h = absurd h
SameStream-Keeps k (Some xs) (Some ys) h = ap (λ l. k ++ l) h

-- a list that has some bytes is not empty, and nor is what they follow
pub some-not-empty : (bytes : List ℕ) → 0 < length bytes → bytes ≢ []
some-not-empty bytes h e = let none : length bytes ≡ 0 = ap length e in absurd (omega arith)

-- held bytes with some bytes after them are not empty
pub behind-some : (held bytes : List ℕ) → 0 < length bytes → held ++ bytes ≢ []
behind-some held bytes h = some-not-empty (held ++ bytes) (let both : length (held ++ bytes) ≡ length held + length bytes = length-append held bytes in omega arith)
