-- The refusals of a service, in words (this project's profile: docs/PROTOCOL.md, "Frames").
use Rattle.std.specs.Prelude.{ℕ, ◌==◌, if◌then◌else◌, List, codes}

-- the words for a code
abbrev pub refusal_words : ℕ → List ℕ
refusal_words code =
    if code == 1 then codes "a session with this number is open" else
    if code == 2 then codes "no session with this number is open" else
    if code == 3 then codes "no further session can be opened" else
    if code == 4 then codes "the key is no keysym" else
    if code == 5 then codes "the load is no bundle" else
    if code == 6 then codes "the table is refused" else
    if code == 7 then codes "the certificate can't be read" else
    if code == 8 then codes "the certificate is not valid: the new table does not follow the one in use, more keys may be pending than its bound, its typings are not those of the repertoire, or its fresh keys may not be fresh" else
    if code == 9 then codes "the service is out of memory" else
    if code == 10 then codes "the request is malformed" else codes "for a reason that is not known"
