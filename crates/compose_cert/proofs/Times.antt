-- A number of lines, one after another, as a loop reads them.
use Rattle.std.proofs.Common.{◌≡◌, ℕ, suc, ◌+◌, ◌-◌, ◌<◌, List, [], ◌∷◌, ◌++◌, refl, sym, ◌∙◌, ap, arith, append_assoc}
use Rattle.std.specs.Prelude.{Result, Ok, Err}
use Rattle.compose_text.specs.Results.{◌>>=◌}
use Rattle.compose_cert.specs.declared.CertFault.{CertFault}
use Rattle.compose_cert.specs.Reading.{times}
use Rattle.compose_cert.specs.StepReturns.{behind}

regrouped : {A : Type 0} (xs : List A) (x : A) (r : Result (List A × List (List ℕ)) CertFault) → behind (xs ++ x ∷ []) r ≡ behind xs (r >>= λ more. Ok (x ∷ more.0, more.1))
regrouped xs x (Ok more) = ap (λ ys. Ok (ys, more.1)) (append_assoc xs (x ∷ []) more.0)
regrouped xs x (Err e) = refl

first_left : (count i : ℕ) → i < count → count - i ≡ suc (count - (i + 1))
first_left count i l = omega arith

-- if one more is read, it comes after those before it and before the others
pub times_more : {A : Type 0} (one : ℕ → List (List ℕ) → Result (A × List (List ℕ)) CertFault) (xs : List A) (count i n : ℕ) (lines rest : List (List ℕ)) (x : A)
    (whole : Result (List A × List (List ℕ)) CertFault)
    → i < count → one (n + i) lines ≡ Ok (x, rest) → behind xs (times one (count - i) (n + i) lines) ≡ whole → behind (xs ++ x ∷ []) (times one (count - (i + 1)) (n + (i + 1)) rest) ≡ whole
times_more one xs count i n lines rest x whole l e h =
    let next : n + (i + 1) ≡ 1 + (n + i) = omega arith in
    let step : times one (suc (count - (i + 1))) (n + i) lines ≡ (times one (count - (i + 1)) (1 + (n + i)) rest >>= λ more. Ok (x ∷ more.0, more.1)) = rw e refl in
    ap (λ k. behind (xs ++ x ∷ []) (times one (count - (i + 1)) k rest)) next ∙ regrouped xs x (times one (count - (i + 1)) (1 + (n + i)) rest)
    ∙ ap (behind xs) (sym step) ∙ ap (λ k. behind xs (times one k (n + i) lines)) (sym (first_left count i l)) ∙ h

-- the fault of one is the fault of all
pub times_stop : {A : Type 0} (one : ℕ → List (List ℕ) → Result (A × List (List ℕ)) CertFault) (xs : List A) (count i n : ℕ) (lines : List (List ℕ)) (e : CertFault)
    (whole : Result (List A × List (List ℕ)) CertFault)
    → i < count → one (n + i) lines ≡ Err e → behind xs (times one (count - i) (n + i) lines) ≡ whole → whole ≡ Err e
times_stop one xs count i n lines e whole l f h =
    let step : times one (suc (count - (i + 1))) (n + i) lines ≡ Err e = rw f refl in
    sym h ∙ ap (λ k. behind xs (times one k (n + i) lines)) (first_left count i l) ∙ ap (behind xs) step
