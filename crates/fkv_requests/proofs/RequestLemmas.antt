-- What the program's command line is by clap's rules, and what a parse of it asks for.
use Rattle.std.specs.Prelude.{◌||◌}
use Rattle.std.proofs.Common.{◌≡◌, ◌∙◌, Bool, List, [], false, true, refl, sym, subst, inl, inr}
use Rattle.clap.specs.Words.{HasKind, IsAmong, Kinds, Text, fault_of, kind_of, is_simple, is_simple_and_free, subcommand_of}
use Rattle.clap.proofs.OnLiterals.{clap_on_literals}
use Rattle.clap.specs.declared.error.Error.{Error}
use Rattle.clap.specs.declared.error.kind.ErrorKind.TheVariants.{DisplayHelp, DisplayVersion, OutOfMemory}
use Rattle.fkv_requests.specs.declared.requests.Request.{Request}
use Rattle.fkv_requests.specs.declared.requests.Request.TheVariants.{Replay, Table, Help, Version, Mistake}
use Rattle.fkv_requests.specs.Requests.{program, AsksReplay, AsksTable, IsAskedIn, IsAskedBy, IsAskedByKind, MayAskHelp, MayAskVersion, MayBeMistaken}

-- neither of two is true
pub neither : (a b : Bool) → a ≡ false → b ≡ false → (a || b) ≡ false
neither a b e f = rw (e, f) refl

pub program_simple : is_simple program ≡ true
unfolding clap_on_literals
program_simple = refl

pub program_free : is_simple_and_free program ≡ true
unfolding clap_on_literals
program_free = refl

pub asked_by : (words : List Text) (r : Request) → fault_of program words ≡ [] → IsAskedIn (subcommand_of program words) r → IsAskedBy words r
unfolding AsksReplay AsksTable MayBeMistaken
asked_by words Replay none h = (none, h)
asked_by words (Table table) none h = (none, h)
asked_by words (Help text) none h = absurd h
asked_by words Version none h = absurd h
asked_by words (Mistake text) none h = inr (none, h)

-- the kind of an error is one of those that it may have, where memory did not run out
kind_among : (kinds : Kinds) (e : Error) → (kind_of e ≡ OutOfMemory → ⊥) → HasKind kinds e → IsAmong (kind_of e) kinds
kind_among kinds e n (inl o) = absurd (n o)
kind_among kinds e n (inr a) = a

-- what a parse asks for that clap ends with an error
pub asked_by_error : (words : List Text) (e : Error) (r : Request) → HasKind (fault_of program words) e → IsAskedByKind (kind_of e) r → IsAskedBy words r
unfolding MayAskHelp MayAskVersion MayBeMistaken
asked_by_error words e Replay k h = absurd h
asked_by_error words e (Table table) k h = absurd h
asked_by_error words e (Help text) k h =
    subst (λ kind. IsAmong kind (fault_of program words)) h (kind_among (fault_of program words) e (λ o. let bad : DisplayHelp ≡ OutOfMemory = sym h ∙ o in absurd (cc)) k)
asked_by_error words e Version k h =
    subst (λ kind. IsAmong kind (fault_of program words)) h (kind_among (fault_of program words) e (λ o. let bad : DisplayVersion ≡ OutOfMemory = sym h ∙ o in absurd (cc)) k)
asked_by_error words e (Mistake text) k h = inl (kind_of e, kind_among (fault_of program words) e h.2 k, h.0, h.1)
