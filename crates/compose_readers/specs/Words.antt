-- Why a reader leaves something out, or refuses a table, in words (this project's profile).
use Rattle.std.specs.Prelude.{ℕ, List, codes}
use Rattle.compose_readers.specs.declared.cause.Cause.{Cause}
use Rattle.compose_readers.specs.declared.cause.Cause.TheVariants.{OpenKey, LongName, OddByte, OpenString, LongString, NotUtf8, NoKeyHere, NoModifier, UnknownModifier, UnknownKey, UnknownResult, TooManyKeys, NoKey, TwoStrings, LongText, NoResult, OddResult, NoNewline, NoPath, OpenPath, LongPath, BadPercent, BehindInclude}
use Rattle.compose_readers.specs.declared.walking.Refusal.{Refusal}
use Rattle.compose_readers.specs.declared.walking.Refusal.TheVariants.{Unread, Empty, Encoding, Depth, Faults}

abbrev pub cause_words : Cause → List ℕ
cause_words OpenKey = codes "a `<` without a `>`"
cause_words LongName = codes "a name that is too long"
cause_words OddByte = codes "a character that begins nothing"
cause_words OpenString = codes "a string without its end"
cause_words LongString = codes "a string that is too long"
cause_words NotUtf8 = codes "a string that is not UTF-8"
cause_words NoKeyHere = codes "no key where one has to be"
cause_words NoModifier = codes "no modifier behind a `~`"
cause_words UnknownModifier = codes "an unknown modifier"
cause_words UnknownKey = codes "an unknown name of a key"
cause_words UnknownResult = codes "an unknown name of a result"
cause_words TooManyKeys = codes "too many keys"
cause_words NoKey = codes "no key"
cause_words TwoStrings = codes "two strings"
cause_words LongText = codes "a text that is too long"
cause_words NoResult = codes "no result"
cause_words OddResult = codes "something odd in the result"
cause_words NoNewline = codes "no newline behind it"
cause_words NoPath = codes "an include without a path"
cause_words OpenPath = codes "a path without its end"
cause_words LongPath = codes "a path that is too long"
cause_words BadPercent = codes "an unknown or unset % form"
cause_words BehindInclude = codes "something behind an include"

abbrev pub refusal_words : Refusal → List ℕ
refusal_words Unread = codes "a file can't be read"
refusal_words Empty = codes "a file is empty"
refusal_words Encoding = codes "a file begins with a NUL, or with no ASCII character"
refusal_words Depth = codes "includes lead too deep"
refusal_words Faults = codes "a file has too many faulty lines"
