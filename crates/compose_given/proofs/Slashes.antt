-- The slashes at the end of a path.
use Rattle.std.proofs.Common.{◌≡◌, ◌∙◌, refl, sym, ap, ℕ, ◌+◌, ◌-◌, ◌<◌, arith, Bool, true, false, nat_eq, List, [], ◌∷◌, ◌++◌, length, take}
use Rattle.std.specs.Prelude.{Option, Some, None, IfSome, get_or, encode_utf8}
use Rattle.std.specs.List.{suffix_len}
use Rattle.std.specs.Str.Pattern.{FindsCharSuffix, CutsSuffixes, IsTrimEndMatches}
use Rattle.std.proofs.lemmas.List.{take-append-drop, length-append, take_all, take_more, take-append-le}
use Rattle.std.proofs.lemmas.List.Sums.{suffix_len-take_yes, suffix_len-take_no}
use Rattle.std.proofs.lemmas.Bool.{eqb-true}
use Rattle.std.proofs.lemmas.Str.{encode_ascii}
use Rattle.std.proofs.lemmas.Str.Pattern.{drop_at_char}
use Rattle.std.proofs.Math.Seq.{take-length, drop-length, take-append_seam, get_or-append_seam}
use Rattle.compose_given.specs.Variables.{without_slashes}

abbrev slash : ℕ → Bool
slash = nat_eq 47

-- another slash
more : (r : List ℕ) → suffix_len slash (r ++ 47 ∷ []) ≡ 1 + suffix_len slash r
more r =
    let m = r ++ 47 ∷ [] in
    let long : length m ≡ length r + 1 = length-append r (47 ∷ []) in
    let before : length m - 1 ≡ length r = omega (arith, long) in
    ap (suffix_len slash) (sym (take-length m))
    ∙ (suffix_len-take_yes slash m (length m) 0 (omega (arith, long)) (omega arith) (ap slash (ap (λ n. get_or m n 0) before ∙ get_or-append_seam r 47 [] 0))
    ∙ ap (λ l. 1 + suffix_len slash l) (ap (λ n. take n m) before ∙ take-append_seam r (47 ∷ [])))

-- is removed like the others
pub cut_one : (r : List ℕ) → without_slashes (r ++ 47 ∷ []) ≡ without_slashes r
cut_one r =
    let m = r ++ 47 ∷ [] in
    let fewer : length m - suffix_len slash m ≡ length r - suffix_len slash r = omega (arith, length-append r (47 ∷ []), more r) in
    ap (λ n. take n m) fewer ∙ take-append-le (length r - suffix_len slash r) r (47 ∷ []) (omega arith)

-- a path whose last slashes are cut off
cut : (path : List ℕ) (ns : List ℕ) (rest : List ℕ) → CutsSuffixes (FindsCharSuffix 47) path ns rest → without_slashes path ≡ without_slashes rest
cut path [] rest e = ap without_slashes (sym e)
cut path (n ∷ ns) rest h =
    let m = h.0 in
    let short = take (length m - n) m in
    let ends : m ≡ short ++ 47 ∷ [] = sym (take-append-drop (length m - n) m) ∙ ap (λ l. short ++ l) (drop_at_char 47 m (length m - n) (length m) h.2.1 (omega arith) ∙ ap (λ l. 47 ∷ l) (drop-length m)) in
    cut path ns m h.1 ∙ (ap without_slashes ends ∙ (cut_one short ∙ ap without_slashes (sym h.3)))

-- a path that does not end in a slash
whole_by : (path : List ℕ) (is : Bool) → slash (get_or path (length path - 1) 0) ≡ is → 0 < length path → ((front : List ℕ) → path ≡ front ++ encode_utf8 47 → ⊥) → without_slashes path ≡ path
whole_by path false e some other =
    let none : suffix_len slash path ≡ 0 = ap (suffix_len slash) (sym (take-length path)) ∙ suffix_len-take_no slash path (length path) 0 some (omega arith) e in
    take_all (length path - suffix_len slash path) path (omega (arith, none))
whole_by path true e some other =
    let front = take (length path - 1) path in
    let back : length path - 1 + 1 ≡ length path = omega (arith, some) in
    let last : 47 ≡ get_or path (length path - 1) 0 = eqb-true 47 _ e in
    absurd (other front (sym (take-length path) ∙ (ap (λ n. take n path) (sym back) ∙ (take_more path (length path - 1) 0 (omega (arith, some)) ∙ (ap (λ x. front ++ x ∷ []) (sym last) ∙ ap (λ l. front ++ l) (sym (encode_ascii 47 (omega arith))))))))

whole : (path : List ℕ) → ((front : List ℕ) → path ≡ front ++ encode_utf8 47 → ⊥) → without_slashes path ≡ path
whole [] other = refl
whole (x ∷ xs) other = whole_by (x ∷ xs) (slash (get_or (x ∷ xs) (length (x ∷ xs) - 1) 0)) refl (omega arith) other

-- nothing is left to cut off
kept : (rest : List ℕ) (o : Option ℕ) → FindsCharSuffix 47 rest o → IfSome o (λ n. n ≡ 0) → without_slashes rest ≡ rest
kept rest None other e = whole rest other
kept rest (Some n) found e = absurd (omega (arith, e, found.0))

-- the path after its last slashes are cut off
pub trimmed : (path rest : List ℕ) → IsTrimEndMatches (FindsCharSuffix 47) path rest → rest ≡ without_slashes path
trimmed path rest h = sym (cut path h.0.0 rest h.0.1 ∙ kept rest h.1.0 h.1.1 h.1.2)
