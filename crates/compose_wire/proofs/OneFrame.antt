-- The bytes of a frame determine its request and where it ends.
use Rattle.std.proofs.Common.{◌≡◌, ℕ, ◌<◌, ◌^◌, List, [], ◌∷◌, ◌++◌, length, refl, sym, ◌∙◌, ap, ap₂, arith}
use Rattle.std.specs.Int.{to_be_bytes, from_be_bytes, w32}
use Rattle.std.proofs.lemmas.Nat.{from_be_bytes-to_be_bytes_4}
use Rattle.compose_model.specs.declared.Rule.TheVariants.{Refuse, Longest}
use Rattle.compose_wire.specs.Messages.{Body, open_session, key, reset, close, load, ask, Request, Fits, BodyFits}
use Rattle.compose_wire.specs.Frames.{frame, kind_of, payload}
use Rattle.compose_wire.specs.Feeding.{body_at}

-- the body of a request that fits is read back from its kind and payload
pub body_again : (b : Body) → BodyFits b → body_at (kind_of b) (payload b) ≡ b
body_again open_session f = refl
body_again (key k) f = ap key (from_be_bytes-to_be_bytes_4 k f)
body_again reset f = refl
body_again close f = refl
body_again (load Refuse bytes) f = refl
body_again (load Longest bytes) f = refl
body_again ask f = refl

-- the length of a payload that fits has 32 bits
pub payload_fits : (b : Body) → BodyFits b → length (payload b) < 2 ^ 32
payload_fits open_session f = omega arith
payload_fits (key k) f = omega arith
payload_fits reset f = omega arith
payload_fits close f = omega arith
payload_fits (load rule bytes) f = let l = f.0 in omega arith
payload_fits ask f = omega arith

-- lists of the same length, and what follows them
pub parted : (a b x y : List ℕ) → length a ≡ length b → a ++ x ≡ b ++ y → (a ≡ b) × (x ≡ y)
parted [] [] x y l e = (refl, e)
parted [] (j ∷ b) x y l e = absurd (omega arith)
parted (i ∷ a) [] x y l e = absurd (omega arith)
parted (i ∷ a) (j ∷ b) x y l e =
    let tails : a ++ x ≡ b ++ y = cc in
    let heads : i ≡ j = cc in
    let r = parted a b x y (omega arith) tails in
    (ap₂ (λ h t. h ∷ t) heads r.0, r.1)

-- bytes begin with the frame of at most one request, and what follows it is the same
pub one_frame : (q r : Request) (x y : List ℕ) → Fits q → Fits r → frame q ++ x ≡ frame r ++ y → (q ≡ r) × (x ≡ y)
one_frame q r x y f g e =
    let kinds : kind_of q.body ≡ kind_of r.body = cc in
    let rest : to_be_bytes w32 q.session ++ (to_be_bytes w32 (length (payload q.body)) ++ (payload q.body ++ x))
    ≡ to_be_bytes w32 r.session ++ (to_be_bytes w32 (length (payload r.body)) ++ (payload r.body ++ y)) = cc in
    let first = parted (to_be_bytes w32 q.session) (to_be_bytes w32 r.session) _ _ refl rest in
    let second = parted (to_be_bytes w32 (length (payload q.body))) (to_be_bytes w32 (length (payload r.body))) (payload q.body ++ x) (payload r.body ++ y) refl first.1 in
    let session : q.session ≡ r.session = sym (from_be_bytes-to_be_bytes_4 q.session f.session) ∙ ap (from_be_bytes w32) first.0 ∙ from_be_bytes-to_be_bytes_4 r.session g.session in
    let long : length (payload q.body) ≡ length (payload r.body) =
    sym (from_be_bytes-to_be_bytes_4 (length (payload q.body)) (payload_fits q.body f.body)) ∙ ap (from_be_bytes w32) second.0
    ∙ from_be_bytes-to_be_bytes_4 (length (payload r.body)) (payload_fits r.body g.body) in
    let p = parted (payload q.body) (payload r.body) x y long second.1 in
    let body : q.body ≡ r.body = sym (body_again q.body f.body) ∙ ap₂ body_at kinds p.0 ∙ body_again r.body g.body in
    (λ i. record { session = session i; body = body i }, p.1)
