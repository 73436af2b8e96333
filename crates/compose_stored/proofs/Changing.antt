-- Calls that follow one another: what they make of the folder together.
use Rattle.std.proofs.Common.{◌≡◌, ◌∙◌, refl, sym, ap, List, [], ◌∷◌, ◌++◌, append_assoc}
use Rattle.std.specs.Prelude.{Option, Some, None}
use Rattle.std.specs.declared.io.ErrorKind.{ErrorKind}
use Rattle.compose_stored.specs.Folder.{Call, Files, After, AtEachMoment, AtTheEnd, more, put, get, moved, writing, wrote, renamed, linked, removed, synced, failed}
use Rattle.compose_stored.specs.Changes.{Changes, ChangesBy, EndsWaiting, Fails, SomeFails}

-- ---- one call

pub after_both : (P Q R : Files → Type 0) (call : Call) (f : Files) → ((g : Files) → P g → Q g → R g) → After call P f → After call Q f → After call R f
after_both P Q R (writing name) f h p q = λ part. h (put name part f) (p part) (q part)
after_both P Q R (wrote name bytes) f h p q = h (put name (Some bytes) f) p q
after_both P Q R (renamed from to) f h p q = h (moved from to f) p q
after_both P Q R (linked from to) f h p q = h (put to (get from f) f) p q
after_both P Q R (removed name) f h p q = h (put name None f) p q
after_both P Q R (synced done) f h p q = h f p q
after_both P Q R (failed why) f h p q = h f p q

pub after_so : (P R : Files → Type 0) (call : Call) (f : Files) → ((g : Files) → P g → R g) → After call P f → After call R f
after_so P R call f h p = after_both P P R call f (λ g x y. h g x) p p

-- ---- many calls

pub moments_so : (P R : Files → Type 0) → ((g : Files) → P g → R g) → (calls : List Call) (f : Files) → AtEachMoment P calls f → AtEachMoment R calls f
moments_so P R h [] f p = h f p
moments_so P R h (call ∷ calls) f (p, rest) = (h f p, after_so (AtEachMoment P calls) (AtEachMoment R calls) call f (moments_so P R h calls) rest)

pub ending_so : (P R : Files → Type 0) → ((g : Files) → P g → R g) → (calls : List Call) (f : Files) → AtTheEnd P calls f → AtTheEnd R calls f
ending_so P R h [] f p = h f p
ending_so P R h (call ∷ calls) f p = after_so (AtTheEnd P calls) (AtTheEnd R calls) call f (ending_so P R h calls) p

-- each moment of calls and of those that follow them
pub moments_append : (P : Files → Type 0) (calls next : List Call) (f : Files) → AtEachMoment P calls f → AtTheEnd (AtEachMoment P next) calls f → AtEachMoment P (calls ++ next) f
moments_append P [] next f p e = e
moments_append P (call ∷ calls) next f (p, rest) e =
    (p, after_both (AtEachMoment P calls) (AtTheEnd (AtEachMoment P next) calls) (AtEachMoment P (calls ++ next)) call f (moments_append P calls next) rest e)

pub ending_append : (P : Files → Type 0) (calls next : List Call) (f : Files) → AtTheEnd (AtTheEnd P next) calls f → AtTheEnd P (calls ++ next) f
ending_append P [] next f e = e
ending_append P (call ∷ calls) next f e = after_so (AtTheEnd (AtTheEnd P next) calls) (AtTheEnd P (calls ++ next)) call f (ending_append P calls next) e

-- what holds at each moment holds at the end
pub moments_end : (P : Files → Type 0) (calls : List Call) (f : Files) → AtEachMoment P calls f → AtTheEnd P calls f
moments_end P [] f p = p
moments_end P (call ∷ calls) f (p, rest) = after_so (AtEachMoment P calls) (AtTheEnd P calls) call f (moments_end P calls) rest

pub more_more : (calls : Option (List Call)) (made next : List Call) → more (more calls made) next ≡ more calls (made ++ next)
more_more None made next = refl
more_more (Some calls) made next = ap Some (append_assoc calls made next)

-- ---- what holds of calls holds of those that they are part of

pub ends_after : (calls next : List Call) → EndsWaiting next → EndsWaiting (calls ++ next)
ends_after calls next (before, done, e) = (calls ++ before, done, ap (λ (x : List Call). calls ++ x) e ∙ sym (append_assoc calls before (synced done ∷ [])))

pub fails_before : (why : ErrorKind) (calls next : List Call) → Fails why calls → Fails why (calls ++ next)
fails_before why calls next (before, later, e) = (before, later ++ next, ap (λ (x : List Call). x ++ next) e ∙ append_assoc before (failed why ∷ later) next)

pub fails_after : (why : ErrorKind) (calls next : List Call) → Fails why next → Fails why (calls ++ next)
fails_after why calls next (before, later, e) = (calls ++ before, later, ap (λ (x : List Call). calls ++ x) e ∙ sym (append_assoc calls before (failed why ∷ later)))

pub some_before : (calls next : List Call) → SomeFails calls → SomeFails (calls ++ next)
some_before calls next (why, f) = (why, fails_before why calls next f)

pub some_after : (calls next : List Call) → SomeFails next → SomeFails (calls ++ next)
some_after calls next (why, f) = (why, fails_after why calls next f)

-- ---- what functions make of the folder

-- a call fails
pub only_failed : (why : ErrorKind) (M E : Files → Files → Type 0) (old new : Option (List Call)) → new ≡ more old (failed why ∷ []) → ((f : Files) → M f f) → ((f : Files) → E f f) → ChangesBy (Fails why) M E old new
only_failed why M E old new e m ends = (record { made = failed why ∷ []; calls = e; moments = λ f. (m f, m f); ending = ends }, ([], [], refl))

abbrev pub followed : (M₁ E₁ M₂ E₂ M E : Files → Files → Type 0) (old mid new : Option (List Call)) → ((f g : Files) → M₁ f g → M f g) → ((f g h : Files) → E₁ f g → M₂ g h → M f h) → ((f g h : Files) → E₁ f g → E₂ g h → E f h) → Changes M₁ E₁ old mid → Changes M₂ E₂ mid new → Changes M E old new
followed M₁ E₁ M₂ E₂ M E old mid new first later ends a b = record {
  made = a.made ++ b.made;
  calls = b.calls ∙ ap (λ (x : Option (List Call)). more x b.made) a.calls ∙ more_more old a.made b.made;
  moments = λ f. moments_append (M f) a.made b.made f (moments_so (M₁ f) (M f) (first f) a.made f (a.moments f))
      (ending_so (E₁ f) (AtEachMoment (M f) b.made) (λ g e. moments_so (M₂ g) (M f) (λ h. later f g h e) b.made g (b.moments g)) a.made f (a.ending f));
  ending = λ f. ending_append (E f) a.made b.made f (ending_so (E₁ f) (AtTheEnd (E f) b.made) (λ g e. ending_so (E₂ g) (E f) (λ h. ends f g h e) b.made g (b.ending g)) a.made f (a.ending f));
}

pub followed_by : (A B Made : List Call → Type 0) (M₁ E₁ M₂ E₂ M E : Files → Files → Type 0) (old mid new : Option (List Call)) → ((calls next : List Call) → A calls → B next → Made (calls ++ next))
    → ((f g : Files) → M₁ f g → M f g) → ((f g h : Files) → E₁ f g → M₂ g h → M f h) → ((f g h : Files) → E₁ f g → E₂ g h → E f h) → ChangesBy A M₁ E₁ old mid → ChangesBy B M₂ E₂ mid new → ChangesBy Made M E old new
followed_by A B Made M₁ E₁ M₂ E₂ M E old mid new both first later ends (a, x) (b, y) = (followed M₁ E₁ M₂ E₂ M E old mid new first later ends a b, both a.made b.made x y)

abbrev pub weaker : (M E M' E' : Files → Files → Type 0) (old new : Option (List Call)) → ((f g : Files) → M f g → M' f g) → ((f g : Files) → E f g → E' f g) → Changes M E old new → Changes M' E' old new
weaker M E M' E' old new m e a = record {
  made = a.made;
  calls = a.calls;
  moments = λ f. moments_so (M f) (M' f) (m f) a.made f (a.moments f);
  ending = λ f. ending_so (E f) (E' f) (e f) a.made f (a.ending f);
}

pub weaker_by : (Made : List Call → Type 0) (M E M' E' : Files → Files → Type 0) (old new : Option (List Call)) → ((f g : Files) → M f g → M' f g) → ((f g : Files) → E f g → E' f g) → ChangesBy Made M E old new → ChangesBy Made M' E' old new
weaker_by Made M E M' E' old new m e (a, x) = (weaker M E M' E' old new m e a, x)
