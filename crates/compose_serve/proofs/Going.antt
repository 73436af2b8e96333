-- A stream that is being served, and how it ends.
use Rattle.std.proofs.Common.{◌≡◌, ℕ, zero, suc, ◌+◌, ◌<◌, ◌≤◌, List, [], ◌∷◌, ◌++◌, Bool, true, length, take, refl, sym, ◌∙◌, ap, subst, inl, inr, append_assoc, append-nil, length-append, eq-eqb, arith}
use Rattle.std.specs.Prelude.{◌==◌, Option, Some, None, Result, Ok, Err, flat_map}
use Rattle.std.specs.List.{AllByRecursion}
use Rattle.std.specs.Io.KnownBytes.{Consumes, Appends}
use Rattle.std.proofs.lemmas.Bool.{and_from}
use Rattle.compose_model.specs.Table.{is_proper_prefix}
use Rattle.compose_wire.specs.Messages.{Request, Fits, Reply}
use Rattle.compose_wire.specs.Frames.{frame, frames, reply_bytes}
use Rattle.compose_machine.specs.Machine.{ServiceState, Reading, Step, Run}
use Rattle.compose_serve.specs.Streams.{SameStream}
use Rattle.compose_serve.specs.Next.{IsNextRequest}
use Rattle.compose_serve.specs.Ends.{max_frames, replies_bytes, malformed_reply, IsServed, Serves, EndsBy}
use Rattle.compose_serve.specs.declared.ends.StreamEnd.{StreamEnd}
use Rattle.compose_serve.specs.declared.ends.StreamEnd.TheVariants.{InputEnd, Malformed}
use Rattle.compose_serve.specs.declared.ends.ServeFault.{ServeFault}
use Rattle.compose_serve.specs.declared.ends.ServeFault.TheVariants.{Read, Write, Cut, TooManyFrames, NoMemory}
use Rattle.compose_serve.specs.declared.next.Stop.{Stop}
use Rattle.compose_serve.specs.declared.next.Stop.TheVariants.{Faulty, End, EndInFrame, ReadFailed, NoMemory as StopNoMemory}
use Rattle.compose_serve.proofs.Known.{Appends-nothing, Appends-then}

-- ---- one more

flat-more : {X Y : Type 0} (f : X → List Y) (xs : List X) (x : X) → flat_map f (xs ++ x ∷ []) ≡ flat_map f xs ++ f x
flat-more f [] x = append-nil (f x)
flat-more f (y ∷ xs) x = ap (λ r. f y ++ r) (flat-more f xs x) ∙ sym (append_assoc (f y) (flat_map f xs) (f x))

all-more : {X : Type 0} (P : X → Type 0) (xs : List X) (x : X) → AllByRecursion P xs → P x → AllByRecursion P (xs ++ x ∷ [])
all-more P [] x a p = (p, tt)
all-more P (y ∷ xs) x a p = (a.0, all-more P xs x a.1 p)

run-more : (reading : Reading) (old mid new : ServiceState) (qs : List Request) (rs : List Reply) (q : Request) (r : Reply) → Run reading old qs rs mid → Step reading mid q r new
    → Run reading old (qs ++ q ∷ []) (rs ++ r ∷ []) new
run-more reading old mid new [] [] q r h s = (new, subst (λ (st : ServiceState). Step reading st q r new) h s, refl)
run-more reading old mid new (p ∷ qs) (o ∷ rs) q r h s = (h.0, h.1, run-more reading h.0 mid new qs rs q r h.2 s)
run-more reading old mid new [] (o ∷ rs) q r h s = absurd h
run-more reading old mid new (p ∷ qs) [] q r h s = absurd h

-- the first n bytes, fewer than all, are a proper prefix
pub take-proper : (n : ℕ) (bs : List ℕ) → n < length bs → is_proper_prefix (take n bs) bs ≡ true
take-proper n [] h = absurd (omega arith)
take-proper zero (b ∷ bs) h = refl
take-proper (suc n) (b ∷ bs) h = and_from (b == b) (is_proper_prefix (take n bs) bs) (eq-eqb b b refl) (take-proper n bs (omega arith))

consumes-more : (p h r : List ℕ) (a b c : Option (List ℕ)) → Consumes a b (p ++ h) → SameStream h b r c → Consumes a c (p ++ r)
consumes-more p h r None b c x s = tt
consumes-more p h r (Some xs) None c x s = absurd x
consumes-more p h r (Some xs) (Some ys) None x s = absurd s
consumes-more p h r (Some xs) (Some ys) (Some zs) x s = x ∙ append_assoc p h ys ∙ ap (λ l. p ++ l) (sym s) ∙ sym (append_assoc p r zs)

-- ---- going on

module _ (reading : Reading) (old : ServiceState) (left written : Option (List ℕ)) where
  -- this number of requests are answered, and these bytes are held for the next ones
  pub record Going (now : ServiceState) (left' written' : Option (List ℕ)) (count : ℕ) (held : List ℕ) : Type 0 where
    pub requests : List Request
    pub replies : List Reply
    pub fit : AllByRecursion Fits requests
    pub run : Run reading old requests replies now
    pub counted : length requests ≡ count
    pub read : Consumes left left' (frames requests ++ held)
    pub wrote : Appends written written' (replies_bytes replies)

  -- before anything is read, no request is answered and no byte is held
  pub going_start : (held : List ℕ) → held ≡ [] → Going old left written 0 held
  going_start held e = record {
    requests = [];
    replies = [];
    fit = tt;
    run = refl;
    counted = refl;
    read = subst (λ (h : List ℕ). Consumes left left h) (sym e) (none left);
    wrote = Appends-nothing written;
  }
    where
      none : (o : Option (List ℕ)) → Consumes o o []
      none None = tt
      none (Some xs) = refl

  module _ (now : ServiceState) (left' written' : Option (List ℕ)) (count : ℕ) where
    -- bytes that move from the input to what is held change nothing of what was answered
    pub going_read : (left'' : Option (List ℕ)) (held rest : List ℕ) → Going now left' written' count held → SameStream held left' rest left'' → Going now left'' written' count rest
    going_read left'' held rest g s =
        record {
          requests = g.requests;
          replies = g.replies;
          fit = g.fit;
          run = g.run;
          counted = g.counted;
          read = consumes-more (frames g.requests) held rest left left' left'' g.read s;
          wrote =
              g.wrote;
        }

    frames-more : (rest held' : List ℕ) (q : Request) (g : Going now left' written' count rest) → rest ≡ frame q ++ held' → frames g.requests ++ rest ≡ frames (g.requests ++ q ∷ []) ++ held'
    frames-more rest held' q g e =
        ap (λ y. frames g.requests ++ y) e ∙ sym (append_assoc (frames g.requests) (frame q) held') ∙ ap (λ y. y ++ held') (sym (flat-more frame g.requests q))

    -- one more request is answered: its frame was held first, and its reply is written
    pub going_answered : (rest held' : List ℕ) (q : Request) (r : Reply) (next : ServiceState) (written'' : Option (List ℕ)) (g : Going now left' written' count rest) → Fits q
        → rest ≡ frame q ++ held' → Step reading now q r next
        → Appends written' written'' (reply_bytes r) → Going next left' written'' (count + 1) held'
    going_answered rest held' q r next written'' g f e s w = record {
      requests = g.requests ++ q ∷ [];
      replies = g.replies ++ r ∷ [];
      fit = all-more Fits g.requests q g.fit f;
      run = run-more reading old now next g.requests g.replies q r g.run s;
      counted = length-append g.requests (q ∷ []) ∙ ap (λ n. n + 1) g.counted;
      read = subst (λ (h : List ℕ). Consumes left left' h) (frames-more rest held' q g e) g.read;
      wrote =
          subst (λ (h : List ℕ). Appends written written'' h) (sym (flat-more reply_bytes g.replies r)) (Appends-then written written' written'' (replies_bytes g.replies) (reply_bytes r) g.wrote w);
    }

    -- ---- ends

    -- a write of a reply failed
    pub ends_in_reply : (rest held' : List ℕ) (q : Request) (r : Reply) (next : ServiceState) (written'' : Option (List ℕ)) (read_failed write_failed : Bool) (n : ℕ)
        (g : Going now left' written' count rest)
        → count < max_frames → Fits q → rest ≡ frame q ++ held' → Step reading now q r next → n < length (reply_bytes r) → Appends written' written'' (take n (reply_bytes r)) → write_failed ≡ true
        → Serves reading old next left left' written written'' read_failed write_failed (Err Write)
    ends_in_reply rest held' q r next written'' read_failed write_failed n g c f e s l w failed = (
      record { requests = g.requests ++ q ∷ []; replies = g.replies ++ r ∷ []; rest = held'; written = replies_bytes g.replies ++ take n (reply_bytes r) },
      record {
        fit = all-more Fits g.requests q g.fit f;
        run = run-more reading old now next g.requests g.replies q r g.run s;
        few = (let many : length (g.requests ++ q ∷ []) ≡ length g.requests + 1 = length-append g.requests (q ∷ []) in let counted = g.counted in omega arith);
        read = subst (λ (h : List ℕ). Consumes left left' h) (frames-more rest held' q g e) g.read;
        wrote = Appends-then written written' written'' (replies_bytes g.replies) (take n (reply_bytes r)) g.wrote w;
      },
      record { failed = failed; before = g.replies; last = r; part = take n (reply_bytes r); is_last = inl refl; missing = take-proper n (reply_bytes r) l; written = refl },
    )

    module _ (rest : List ℕ) (g : Going now left' written' count rest) (few : count ≤ max_frames) where
      served_by : (written'' : Option (List ℕ)) (bytes : List ℕ) → Appends written written'' bytes
          → IsServed reading old now left left' written written'' (record { requests = g.requests; replies = g.replies; rest = rest; written = bytes })
      served_by written'' bytes w = record { fit = g.fit; run = g.run; few = subst (λ (n : ℕ). n ≤ max_frames) (sym g.counted) few; read = g.read; wrote = w }

      all_written : (written'' : Option (List ℕ)) → written'' ≡ written'
          → IsServed reading old now left left' written written'' (record { requests = g.requests; replies = g.replies; rest = rest; written = replies_bytes g.replies })
      all_written written'' e = served_by written'' (replies_bytes g.replies) (subst (λ (o : Option (List ℕ)). Appends written o (replies_bytes g.replies)) (sym e) g.wrote)

      -- no request follows
      pub ends_at : (stop : Stop) (result : Result StreamEnd ServeFault) (held' : List ℕ) (written'' : Option (List ℕ)) (read_failed write_failed : Bool) → IsNextRequest (Err stop) rest held' left' read_failed
          → EndsBy stop result written' written'' write_failed
          → Serves reading old now left left' written written'' read_failed write_failed result
      ends_at Faulty (Ok Malformed) held' written'' rf wf c w = (
        _,
        served_by written'' (replies_bytes (g.replies ++ malformed_reply ∷ []))
            (subst (λ (h : List ℕ). Appends written written'' h) (sym (flat-more reply_bytes g.replies malformed_reply))
            (Appends-then written written' written'' (replies_bytes g.replies) (reply_bytes malformed_reply) g.wrote w)),
        record { faulty = c; written = refl },
      )
      ends_at Faulty (Err Write) held' written'' rf wf c w = (
        _,
        served_by written'' (replies_bytes g.replies ++ w.0) (Appends-then written written' written'' (replies_bytes g.replies) w.0 g.wrote w.2),
        record { failed = w.3; before = g.replies; last = malformed_reply; part = w.0; is_last = inr (refl, refl, c); missing = w.1; written = refl },
      )
      ends_at End (Ok InputEnd) held' written'' rf wf c w = (_, all_written written'' w, record { at_end = c.0; whole = c.1; written = refl })
      ends_at EndInFrame (Err Cut) held' written'' rf wf c w = (_, all_written written'' w, record { at_end = c.0; some = c.1; begun = c.2; written = refl })
      ends_at ReadFailed (Err Read) held' written'' rf wf c w = (_, all_written written'' w, record { failed = c.0; begun = c.1; written = refl })
      ends_at StopNoMemory (Err NoMemory) held' written'' rf wf c w = (_, all_written written'' w, record { some = c; written = refl })
      ends_at _ _ held' written'' rf wf c w = absurd w

    -- one frame too many
    pub ends_full : (rest held' : List ℕ) (q : Request) (read_failed write_failed : Bool) (g : Going now left' written' count rest) → count ≡ max_frames → Fits q → rest ≡ frame q ++ held'
        → Serves reading old now left left' written written' read_failed write_failed (Err TooManyFrames)
    ends_full rest held' q rf wf g c f e = (
      _,
      all_written rest g (subst (λ (n : ℕ). n ≤ max_frames) (sym c) (omega arith)) written' refl,
      record { all = g.counted ∙ c; more = (q, held', f, e); written = refl },
    )
