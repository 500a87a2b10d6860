-- Where values of options come from, by the rows of a parse, and paths among them.
use Rattle.std.proofs.Common.{◌≡◌, ◌∙◌, ◌+◌, [], ℕ, List, Bool, Option, None, Some, cond, refl, sym, ap, map}
use Rattle.std.specs.Prelude.{count_by, find, option_and_then, option_map}
use Rattle.std.specs.Option.{option_map_or}
use Rattle.std.proofs.lemmas.List.Folds.{fold-map}
use Rattle.std.specs.Str.{bytes_eq}
use Rattle.clap.specs.Facts.{Entry}
use Rattle.clap.specs.Walk.{Row, Text, row_of, rows_of}
use Rattle.clap.specs.Words.{matched_of}
use Rattle.clap.proofs.WalkLemmas.{find_row}
use Rattle.clap.specs.declared.parser.matches.Found.{Found}
use Rattle.clap.specs.declared.parser.matches.MatchedArg.{MatchedArg}
use Rattle.fkv_requests.specs.Requests.{source_of}

pub source-rows : (f : Found) (id : Text) → option_and_then (λ (a : MatchedArg). a.source) (matched_of f id) ≡ source_of id (rows_of f)
source-rows f id =
    go (find (λ e. bytes_eq e.0.now id) f.entries.items)
    ∙ ap (option_and_then (λ (r : Row). r.source)) (sym (find_row f.entries.items id))
  where
    go : (o : Option Entry) → option_and_then (λ (a : MatchedArg). a.source) (option_map (λ e. e.1) o) ≡ option_and_then (λ (r : Row). r.source) (option_map row_of o)
    go None = refl
    go (Some e) = refl

-- what is counted of images is counted of what they are images of
pub count_by-map : {X Y : Type 0} (f : X → Y) (p : Y → Bool) (xs : List X) → count_by p (map f xs) ≡ count_by (λ x. p (f x)) xs
count_by-map f p xs = fold-map (λ (a : ℕ) y. a + cond (p y) 1 0) f 0 xs

-- the values of a row that is there, and of one that is not
pub some_paths : (o : Option (List Text)) (texts : List Text) → Some texts ≡ o → texts ≡ option_map_or (λ values. values) o []
some_paths None texts e = absurd (cc)
some_paths (Some other) texts e = cc

pub no_paths : (o : Option (List Text)) → None ≡ o → [] ≡ option_map_or (λ values. values) o []
no_paths None e = refl
no_paths (Some other) e = absurd (cc)
