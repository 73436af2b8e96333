-- A fault stays if more bytes come.
use Rattle.std.proofs.Common.{◌≡◌, ℕ, ◌≤◌, List, [], ◌∷◌, ◌++◌, Bool, true, false, cond, not, length, take, drop, inl, inr, sym, ◌∙◌, ap, arith, length-append, length-drop}
use Rattle.std.specs.Prelude.{Option, Some, None, nat_lt}
use Rattle.std.specs.Int.{from_be_bytes, w32}
use Rattle.std.proofs.lemmas.Bool.{le-ltb, ltb-false, cases_Bool}
use Rattle.std.proofs.lemmas.List.{take-append-le, drop-append-le}
use Rattle.compose_text.specs.Numbers.{is_between}
use Rattle.compose_wire.specs.Frames.{Fault, fault_at, length_fault, unknown_kind}

-- the fault of a kind and the bytes after it, by the two tests
reported : ℕ → List ℕ → Bool → Bool → Option Fault
reported kind rest known short = cond (not known) (Some unknown_kind) (cond short None (length_fault kind (from_be_bytes w32 (take 4 (drop 4 rest)))))

-- four bytes are not changed by those that follow
length_stays : (rest more : List ℕ) → 8 ≤ length rest → take 4 (drop 4 (rest ++ more)) ≡ take 4 (drop 4 rest)
length_stays rest more l =
    let long : 4 ≤ length (drop 4 rest) = omega (arith, length-drop 4 rest) in
    ap (take 4) (drop-append-le 4 rest more (omega arith)) ∙ take-append-le 4 (drop 4 rest) more long

-- a fault at the beginning of bytes stays if more bytes come
pub fault_stays : (held more : List ℕ) (fault : Fault) → fault_at held ≡ Some fault → fault_at (held ++ more) ≡ Some fault
unfolding reported
fault_stays [] more fault e = cc
fault_stays (kind ∷ rest) more fault e = elim (cases_Bool (is_between 1 7 kind)) [
  | inr unknown ↦
      ap (λ b. reported kind (rest ++ more) b (nat_lt (length (rest ++ more)) 8)) unknown
      ∙ sym (ap (λ b. reported kind rest b (nat_lt (length rest) 8)) unknown) ∙ e
  | inl known ↦ elim (cases_Bool (nat_lt (length rest) 8)) [
    | inl short ↦ (let none : None ≡ Some fault = sym (ap (λ b. reported kind rest b (nat_lt (length rest) 8)) known ∙ ap (reported kind rest true) short) ∙ e in cc)
    | inr long ↦
        (let whole = ltb-false (length rest) 8 long in
        let further : nat_lt (length (rest ++ more)) 8 ≡ false = le-ltb (length (rest ++ more)) 8 (omega (arith, length-append rest more)) in
        ap (λ b. reported kind (rest ++ more) b (nat_lt (length (rest ++ more)) 8)) known ∙ ap (reported kind (rest ++ more) true) further
        ∙ ap (λ bytes. length_fault kind (from_be_bytes w32 bytes)) (length_stays rest more whole)
        ∙ sym (ap (λ b. reported kind rest b (nat_lt (length rest) 8)) known ∙ ap (reported kind rest true) long) ∙ e)
  ]
]
