-- The request at the beginning of the bytes.
use Rattle.std.proofs.Common.{◌≡◌, ℕ, ◌+◌, ◌*◌, ◌≤◌, List, [], ◌∷◌, ◌++◌, length, take, drop, get_or, refl, sym, ◌∙◌, ap, ap₂, subst, arith}
use Rattle.std.specs.Int.{to_be_bytes, from_be_bytes, w32}
use Rattle.std.proofs.Math.Seq.{take-append_seam, drop-append_seam}
use Rattle.std.proofs.lemmas.Nat.{from_be_bytes-to_be_bytes_4}
use Rattle.compose_wire.specs.Messages.{Body, Request, Fits}
use Rattle.compose_wire.specs.Frames.{frame, payload, kind_of, BeginsWithFrame, stated_size}
use Rattle.std.specs.Prelude.{Some, Ok}
use Rattle.compose_wire.specs.Feeding.{IsSize, body_at, request_at, IsLoaded, BeginsWithLoad}
use Rattle.compose_wire.proofs.OneFrame.{body_again, payload_fits}

-- the request read from bytes that begin with a frame, and its frame
pub record IsRead (held : List ℕ) : Type 0 where
  pub fits : Fits (request_at held)
  pub is : held ≡ frame (request_at held) ++ drop (9 + stated_size held) held

module _ (q : Request) (more : List ℕ) (f : Fits q) where
  size_again : stated_size (frame q ++ more) ≡ length (payload q.body)
  size_again = from_be_bytes-to_be_bytes_4 (length (payload q.body)) (payload_fits q.body f.body)

  payload_again : take (stated_size (frame q ++ more)) (drop 9 (frame q ++ more)) ≡ payload q.body
  payload_again = ap (λ n. take n (payload q.body ++ more)) size_again ∙ take-append_seam (payload q.body) more

  request_again : request_at (frame q ++ more) ≡ q
  request_again =
      let session : from_be_bytes w32 (to_be_bytes w32 q.session) ≡ q.session = from_be_bytes-to_be_bytes_4 q.session f.session in
      let body : body_at (kind_of q.body) (take (stated_size (frame q ++ more)) (drop 9 (frame q ++ more))) ≡ q.body = ap (body_at (kind_of q.body)) payload_again ∙ body_again q.body f.body in
      λ i. record { session = session i; body = body i }

  rest_again : drop (9 + stated_size (frame q ++ more)) (frame q ++ more) ≡ more
  rest_again =
      let long : 9 + stated_size (frame q ++ more) ≡ length (frame q) = let e = size_again in omega arith in
      ap (λ n. drop n (frame q ++ more)) long ∙ drop-append_seam (frame q) more

  read_again : IsRead (frame q ++ more)
  read_again = record {
    fits = subst (λ (r : Request). Fits r) (sym request_again) f;
    is = ap₂ (λ (r : Request) (x : List ℕ). frame r ++ x) (sym request_again) (sym rest_again);
  }

-- if held bytes begin with the frame of a request, that request is read from them
pub is_read : (held : List ℕ) → BeginsWithFrame held → IsRead held
is_read held b = subst (λ (h : List ℕ). IsRead h) (sym b.3) (read_again b.0 b.1 b.2)

-- the four bytes after the kind are the session
pub session_read : (h : List ℕ) → 9 ≤ length h → get_or h 1 0 * 16777216 + get_or h 2 0 * 65536 + get_or h 3 0 * 256 + get_or h 4 0 ≡ from_be_bytes w32 (take 4 (drop 1 h))
session_read [] l = absurd (omega arith)
session_read (k ∷ []) l = absurd (omega arith)
session_read (k ∷ a ∷ []) l = absurd (omega arith)
session_read (k ∷ a ∷ b ∷ []) l = absurd (omega arith)
session_read (k ∷ a ∷ b ∷ c ∷ []) l = absurd (omega arith)
session_read (k ∷ a ∷ b ∷ c ∷ d ∷ t) l = refl

module _ (h : List ℕ) (n session : ℕ) (body : Body) (sized : IsSize (Ok (Some n)) h)
    (reads : session ≡ get_or h 1 0 * 16777216 + get_or h 2 0 * 65536 + get_or h 3 0 * 256 + get_or h 4 0)
    (says : body ≡ body_at (get_or h 0 0) (take n (drop 9 h)))
  where
    whole : 9 ≤ length h
    whole = let l = sized.2 in omega arith

    is_first : record { session = session; body = body } ≡ request_at h
    is_first =
        let same_session : session ≡ from_be_bytes w32 (take 4 (drop 1 h)) = reads ∙ session_read h whole in
        let same_body : body ≡ body_at (get_or h 0 0) (take (stated_size h) (drop 9 h)) = says ∙ ap (λ m. body_at (get_or h 0 0) (take m (drop 9 h))) sized.1 in
        λ i. record { session = same_session i; body = same_body i }

    -- the session and the body that are read from a whole frame are its request, and the bytes
    -- begin with that frame
    pub is_first_request : Fits (record { session = session; body = body }) × (h ≡ frame (record { session = session; body = body }) ++ drop (9 + n) h) × (9 + n ≤ length h)
    is_first_request =
        let r = is_read h sized.0 in (
          subst (λ (q : Request). Fits q) (sym is_first) r.fits,
          r.is ∙ ap₂ (λ (q : Request) (m : ℕ). frame q ++ drop (9 + m) h) (sym is_first) (sym sized.1),
          sized.2,
        )

-- if memory is needed for the payload, the bytes begin with a load
pub begins_with_load : (h : List ℕ) (n : ℕ) → IsSize (Ok (Some n)) h → IsLoaded (body_at (get_or h 0 0) (take n (drop 9 h))) → BeginsWithLoad h
begins_with_load h n sized loaded =
    let r = is_read h sized.0 in (
      request_at h,
      drop (9 + stated_size h) h,
      r.fits,
      subst (λ (m : ℕ). IsLoaded (body_at (get_or h 0 0) (take m (drop 9 h)))) sized.1 loaded,
      r.is,
    )
