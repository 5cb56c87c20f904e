-- A text with another value of a guest means the configuration with that value.
use Rattle.std.proofs.Common.{◌≡◌, ◌≢◌, ◌<◌, ◌≤◌, ◌+◌, ◌==◌, ◌&&◌, ℕ, zero, suc, List, [], ◌∷◌, ◌++◌, length, set, cond, Bool, true, false, bytes_eq, Option, Some, Result, Ok, Err, codes, refl, ap, subst, sym, ◌∙◌, arith}
use Rattle.std.proofs.lemmas.Bool.{and_parts, false≢true, le-leb}
use Rattle.std.proofs.lemmas.List.{length-set, length_push}
use Rattle.std.specs.List.{list_all}
use Rattle.std.specs.Prelude.{is_some, nat_le, slice_get, IsSomeAnd}
use Rattle.serde_json.specs.Data.{Data, null, boolean, number, string, array, object}
use Rattle.serde_json.specs.Find.{get}
use Rattle.vm_trace.specs.declared.step.Step.{Step}
use Rattle.vm_guest.specs.Config.{GuestConfig}
use Rattle.vm_domains.specs.Domains.{Domain, configs_of, names_of, place_of}
use Rattle.vm_domains.specs.Machine.{MachineConfig}
use Rattle.vm_config.specs.declared.config.Config.{Config}
use Rattle.vm_config.specs.declared.error.ConfigError.{ConfigError}
use Rattle.vm_config.specs.declared.error.ConfigError.TheVariants.{Kind, Name, Range, Twice}
use Rattle.vm_config.specs.Guests.{Listed, no_guests, with_guest}
use Rattle.vm_config.specs.Keys.{among, as_whole, flag_if, flag_or, is_object, list_of, number_in, number_or, objects_in, objects_or_none, own_driver_if, required_number, text_in, texts_or_none}
use Rattle.vm_config.specs.Migration.{migrated}
use Rattle.vm_config.specs.Names.{is_name}
use Rattle.vm_config.specs.Outcomes.{◌>>=◌}
use Rattle.vm_config.specs.Reading.{commands_from, config_in, config_of, guests_from, keys_in, listed_in, machine_in, name_in, steps_from, version_in}
use Rattle.vm_config.specs.Schedule.{ScheduledLine}
use Rattle.vm_config.specs.Versions.{newer, version_1}
use Rattle.vm_variants.specs.declared.guest_setting.GuestSetting.{GuestSetting}
use Rattle.vm_variants.specs.declared.guest_setting.GuestSetting.TheVariants.{Min, Shares}
use Rattle.vm_variants.specs.Guests.{with_value, IsInRange}
use Rattle.vm_variants.specs.Texts.{key_of, HasGuestValue, HasNumber, IsTextWith}
use Rattle.vm_variants.specs.Variants.{changed_at, reconfigured, with_guest_value, IsAllowed}

-- ---- what is read

-- two types that vm_config keeps to itself: what differs between versions, and the guests that are read so far
abbrev type_of : {A : Type 0} → A → Type 0
type_of {A} x = A

abbrev Limits : Type 0
Limits = type_of version_1

abbrev GuestList : Type 0
GuestList = type_of no_guests

-- where something such is read of the first, it is read of the second with a change
record Follows {A : Type 0} (Such : A → Type 0) (change : A → A) (old new : Result A ConfigError) : Type 0 where
  follows : (x : A) → Such x → old ≡ Ok x → new ≡ Ok (change x)

-- what is read is such
record Ends {A : Type 0} (Such : A → Type 0) (read : Result A ConfigError) : Type 0 where
  ends : (x : A) → read ≡ Ok x → Such x

follows_value : {A : Type 0} (Such : A → Type 0) (change : A → A) (x y : A) → change x ≡ y → Follows Such change (Ok x) (Ok y)
follows_value Such change x y is =
    record { follows = λ z such read. let same : x ≡ z = cc in let told : y ≡ change z = sym is ∙ ap change same in cc }

follows_fault : {A : Type 0} (Such : A → Type 0) (change : A → A) (error : ConfigError) (new : Result A ConfigError) → Follows Such change (Err error) new
follows_fault Such change error new = record { follows = λ x such read. absurd (cc) }

-- the same is read, and then the rest
follows_rest : {A B : Type 0} (Such : B → Type 0) (change : B → B) (read : Result A ConfigError) (next_old next_new : A → Result B ConfigError)
    → ((x : A) → Follows Such change (next_old x) (next_new x)) → Follows Such change (read >>= next_old) (read >>= next_new)
follows_rest Such change (Ok x) next_old next_new rest = rest x
follows_rest Such change (Err e) next_old next_new rest = follows_fault Such change e (Err e)

-- what is read first is changed, and then the rest
follows_then : {A B : Type 0} (First : A → Type 0) (change_first : A → A) (Such : B → Type 0) (change : B → B)
    (old new : Result A ConfigError) (next_old next_new : A → Result B ConfigError)
    → Follows First change_first old new → ((x : A) → Ends (λ y. Such y → First x) (next_old x))
    → ((x : A) → Follows Such change (next_old x) (next_new (change_first x))) → Follows Such change (old >>= next_old) (new >>= next_new)
follows_then First change_first Such change (Ok x) new next_old next_new first ends rest = record {
  follows = λ y such read.
      ap (λ r. r >>= next_new) (first.follows x ((ends x).ends y read such) refl) ∙ (rest x).follows y such read;
}
follows_then First change_first Such change (Err e) new next_old next_new first ends rest = follows_fault Such change e (new >>= next_new)

ends_value : {A : Type 0} (Such : A → Type 0) (x : A) → Such x → Ends Such (Ok x)
ends_value Such x is = record { ends = λ y read. let same : x ≡ y = cc in subst Such same is }

ends_rest : {A B : Type 0} (Such : B → Type 0) (read : Result A ConfigError) (next : A → Result B ConfigError)
    → ((x : A) → Ends Such (next x)) → Ends Such (read >>= next)
ends_rest Such (Ok x) next rest = rest x
ends_rest Such (Err e) next rest = record { ends = λ y read. absurd (cc) }

ends_always : {A : Type 0} (Such : A → Type 0) (read : Result A ConfigError) → ((x : A) → Such x) → Ends Such read
ends_always Such read all = record { ends = λ x is. all x }

-- ---- numbers

apart : (key word : List ℕ) → bytes_eq key word ≡ false → bytes_eq word word ≡ true → key ≢ word
apart key word differ same is = absurd (false≢true (sym differ ∙ ap (λ k. bytes_eq k word) is ∙ same))

number-read : (d : Data) (n least greatest : ℕ) → as_whole d ≡ Some n → least ≤ n → n ≤ greatest → number_in d least greatest ≡ Ok n
number-read d n least greatest is from to = rw (is, le-leb least n from, le-leb n greatest to) refl

-- ---- a guest

module _ (setting : GuestSetting) (n : ℕ) where
  abbrev InRange : Listed → Type 0
  InRange listed = IsInRange setting n listed.domain.config

  abbrev changed_guest : Listed → Listed
  changed_guest listed = record listed { domain = reconfigured (with_value setting n) listed.domain }

module _ (limits : Limits) (quantum page n : ℕ) (old new : Data) (alike : HasNumber (codes "min") n old new) (earlier : List Domain) where
  kept-min : (key : List ℕ) → bytes_eq key (codes "min") ≡ false → get key new ≡ get key old
  kept-min key differ = alike.others key (apart key (codes "min") differ refl)

  abbrev such : Listed → Type 0
  such = InRange Min n

  abbrev change : Listed → Listed
  change = changed_guest Min n

  min-read : (size : ℕ) → Follows (λ m. (1 ≤ n) × (n ≤ size)) (λ m. n) (required_number (get (codes "min") old) 1 size) (required_number (get (codes "min") new) 1 size)
  min-read size = record {
    follows = λ m inside read.
        ap (λ found. required_number found 1 size) alike.stands ∙ number-read alike.number n 1 size alike.is inside.0 inside.1;
  }

  min-follows : Follows such change (listed_in limits quantum page old earlier) (listed_in limits quantum page new earlier)
  unfolding listed_in
  min-follows =
      rw (
        kept-min (codes "name") refl,
        kept-min (codes "size") refl,
        kept-min (codes "shares") refl,
        kept-min (codes "samples") refl,
        kept-min (codes "period") refl,
        kept-min (codes "rate") refl,
        kept-min (codes "seed") refl,
        kept-min (codes "stream") refl,
        kept-min (codes "autostart") refl,
        kept-min (codes "tell") refl,
        kept-min (codes "driver") refl,
        kept-min (codes "trace") refl,
      )
      (follows_rest such change (name_in earlier (get (codes "name") old)) _ _ (λ (name : List ℕ).
      follows_rest such change (required_number (get (codes "size") old) 1 limits.size) _ _ (λ (size : ℕ).
      follows_then (λ (m : ℕ). (1 ≤ n) × (n ≤ size)) (λ (m : ℕ). n) such change
      (required_number (get (codes "min") old) 1 size) (required_number (get (codes "min") new) 1 size) _ _ (min-read size)
      (λ (min : ℕ).
      ends_rest _ (number_or (get (codes "shares") old) 1 1000000 1000) _ (λ (shares : ℕ).
      ends_rest _ (number_or (get (codes "samples") old) 1 1000 100) _ (λ (samples : ℕ).
      ends_rest _ (number_or (get (codes "period") old) 1 1000000 1000) _ (λ (period : ℕ).
      ends_rest _ (number_or (get (codes "rate") old) 1 256 16) _ (λ (rate : ℕ).
      ends_rest _ (number_or (get (codes "seed") old) 0 18446744073709551615 0) _ (λ (seed : ℕ).
      ends_rest _ (number_or (get (codes "stream") old) 0 18446744073709551615 0) _ (λ (stream : ℕ).
      ends_rest _ (flag_or (get (codes "autostart") old) true) _ (λ (autostart : Bool).
      ends_rest _ (flag_if limits.has_tell (get (codes "tell") old) true) _ (λ (tell : Bool).
      ends_rest _ (own_driver_if limits.knows_version_3 (get (codes "driver") old)) _ (λ (own_driver : Bool).
      ends_rest _ (texts_or_none 1000000 (get (codes "trace") old)) _ (λ (texts : List (List ℕ)).
      ends_rest _ (steps_from limits size (length earlier) 0 texts []) _ (λ (trace : List Step).
      ends_value _ _ (λ inside. (inside.least, inside.greatest))))))))))))))
      (λ (min : ℕ).
      follows_rest such change (number_or (get (codes "shares") old) 1 1000000 1000) _ _ (λ (shares : ℕ).
      follows_rest such change (number_or (get (codes "samples") old) 1 1000 100) _ _ (λ (samples : ℕ).
      follows_rest such change (number_or (get (codes "period") old) 1 1000000 1000) _ _ (λ (period : ℕ).
      follows_rest such change (number_or (get (codes "rate") old) 1 256 16) _ _ (λ (rate : ℕ).
      follows_rest such change (number_or (get (codes "seed") old) 0 18446744073709551615 0) _ _ (λ (seed : ℕ).
      follows_rest such change (number_or (get (codes "stream") old) 0 18446744073709551615 0) _ _ (λ (stream : ℕ).
      follows_rest such change (flag_or (get (codes "autostart") old) true) _ _ (λ (autostart : Bool).
      follows_rest such change (flag_if limits.has_tell (get (codes "tell") old) true) _ _ (λ (tell : Bool).
      follows_rest such change (own_driver_if limits.knows_version_3 (get (codes "driver") old)) _ _ (λ (own_driver : Bool).
      follows_rest such change (texts_or_none 1000000 (get (codes "trace") old)) _ _ (λ (texts : List (List ℕ)).
      follows_rest such change (steps_from limits size (length earlier) 0 texts []) _ _ (λ (trace : List Step).
      follows_value such change _ _ refl)))))))))))))))

module _ (limits : Limits) (quantum page n : ℕ) (old new : Data) (alike : HasNumber (codes "shares") n old new) (earlier : List Domain) where
  kept-shares : (key : List ℕ) → bytes_eq key (codes "shares") ≡ false → get key new ≡ get key old
  kept-shares key differ = alike.others key (apart key (codes "shares") differ refl)

  abbrev such_shares : Listed → Type 0
  such_shares = InRange Shares n

  abbrev change_shares : Listed → Listed
  change_shares = changed_guest Shares n

  shares-read : Follows (λ m. (1 ≤ n) × (n ≤ 1000000)) (λ m. n) (number_or (get (codes "shares") old) 1 1000000 1000) (number_or (get (codes "shares") new) 1 1000000 1000)
  shares-read = record {
    follows = λ m inside read.
        ap (λ found. number_or found 1 1000000 1000) alike.stands ∙ number-read alike.number n 1 1000000 alike.is inside.0 inside.1;
  }

  shares-follow : Follows such_shares change_shares (listed_in limits quantum page old earlier) (listed_in limits quantum page new earlier)
  unfolding listed_in
  shares-follow =
      rw (
        kept-shares (codes "name") refl,
        kept-shares (codes "size") refl,
        kept-shares (codes "min") refl,
        kept-shares (codes "samples") refl,
        kept-shares (codes "period") refl,
        kept-shares (codes "rate") refl,
        kept-shares (codes "seed") refl,
        kept-shares (codes "stream") refl,
        kept-shares (codes "autostart") refl,
        kept-shares (codes "tell") refl,
        kept-shares (codes "driver") refl,
        kept-shares (codes "trace") refl,
      )
      (follows_rest such_shares change_shares (name_in earlier (get (codes "name") old)) _ _ (λ (name : List ℕ).
      follows_rest such_shares change_shares (required_number (get (codes "size") old) 1 limits.size) _ _ (λ (size : ℕ).
      follows_rest such_shares change_shares (required_number (get (codes "min") old) 1 size) _ _ (λ (min : ℕ).
      follows_then (λ (m : ℕ). (1 ≤ n) × (n ≤ 1000000)) (λ (m : ℕ). n) such_shares change_shares
      (number_or (get (codes "shares") old) 1 1000000 1000) (number_or (get (codes "shares") new) 1 1000000 1000) _ _ shares-read
      (λ (shares : ℕ). ends_always _ _ (λ (listed : Listed) (inside : such_shares listed). (inside.least, inside.greatest)))
      (λ (shares : ℕ).
      follows_rest such_shares change_shares (number_or (get (codes "samples") old) 1 1000 100) _ _ (λ (samples : ℕ).
      follows_rest such_shares change_shares (number_or (get (codes "period") old) 1 1000000 1000) _ _ (λ (period : ℕ).
      follows_rest such_shares change_shares (number_or (get (codes "rate") old) 1 256 16) _ _ (λ (rate : ℕ).
      follows_rest such_shares change_shares (number_or (get (codes "seed") old) 0 18446744073709551615 0) _ _ (λ (seed : ℕ).
      follows_rest such_shares change_shares (number_or (get (codes "stream") old) 0 18446744073709551615 0) _ _ (λ (stream : ℕ).
      follows_rest such_shares change_shares (flag_or (get (codes "autostart") old) true) _ _ (λ (autostart : Bool).
      follows_rest such_shares change_shares (flag_if limits.has_tell (get (codes "tell") old) true) _ _ (λ (tell : Bool).
      follows_rest such_shares change_shares (own_driver_if limits.knows_version_3 (get (codes "driver") old)) _ _ (λ (own_driver : Bool).
      follows_rest such_shares change_shares (texts_or_none 1000000 (get (codes "trace") old)) _ _ (λ (texts : List (List ℕ)).
      follows_rest such_shares change_shares (steps_from limits size (length earlier) 0 texts []) _ _ (λ (trace : List Step).
      follows_value such_shares change_shares _ _ refl)))))))))))))))

guest-follows : (limits : Limits) (quantum page : ℕ) (setting : GuestSetting) (n : ℕ) (old new : Data) (earlier : List Domain)
    → HasNumber (key_of setting) n old new
    → Follows (InRange setting n) (changed_guest setting n)
    (listed_in limits quantum page old earlier) (listed_in limits quantum page new earlier)
guest-follows limits quantum page Min n old new earlier alike = min-follows limits quantum page n old new alike earlier
guest-follows limits quantum page Shares n old new earlier alike = shares-follow limits quantum page n old new alike earlier

-- a guest is read alike after guests of the same names
name-alike : (found : Option Data) (earlier others : List Domain) → names_of others ≡ names_of earlier → name_in others found ≡ name_in earlier found
name-alike found earlier others names =
    ap (λ (ns : List (List ℕ)). text_in found >>= (λ (name : List ℕ). cond (is_name name) (cond (is_some (place_of name ns)) (Err Twice) (Ok name)) (Err Name))) names

names-alike : (limits : Limits) (quantum page : ℕ) (d : Data) (earlier others : List Domain)
    → names_of others ≡ names_of earlier → length others ≡ length earlier
    → listed_in limits quantum page d others ≡ listed_in limits quantum page d earlier
unfolding listed_in
names-alike limits quantum page d earlier others names many = rw (name-alike (get (codes "name") d) earlier others names, many) refl

-- ---- guests

module _ (limits : Limits) (quantum page : ℕ) (setting : GuestSetting) (n : ℕ) where
  abbrev on_domain : Domain → Domain
  on_domain = reconfigured (with_value setting n)

  abbrev Allowed : ℕ → GuestList → Type 0
  Allowed at guests = IsSomeAnd (slice_get (configs_of guests.domains) at) (IsInRange setting n)

  abbrev changed_guests : ℕ → GuestList → GuestList
  changed_guests at guests = record guests { domains = changed_at at on_domain guests.domains }

  names-changed : (at : ℕ) (ds : List Domain) → names_of (changed_at at on_domain ds) ≡ names_of ds
  names-changed at [] = refl
  names-changed zero (d ∷ ds) = refl
  names-changed (suc at) (d ∷ ds) = ap (λ rest. d.name ∷ rest) (names-changed at ds)

  as-many : (at : ℕ) (ds : List Domain) → length (changed_at at on_domain ds) ≡ length ds
  as-many at [] = refl
  as-many zero (d ∷ ds) = refl
  as-many (suc at) (d ∷ ds) = ap suc (as-many at ds)

  changed-before : (at : ℕ) (ds : List Domain) (d : Domain) → at < length ds → changed_at at on_domain (ds ++ d ∷ []) ≡ changed_at at on_domain ds ++ d ∷ []
  changed-before at [] d there = absurd (omega (arith, there))
  changed-before zero (x ∷ ds) d there = refl
  changed-before (suc at) (x ∷ ds) d there = ap (λ rest. x ∷ rest) (changed-before at ds d (omega (arith, there)))

  changed-last : (at : ℕ) (ds : List Domain) (d : Domain) → at ≡ length ds → changed_at at on_domain (ds ++ d ∷ []) ≡ ds ++ on_domain d ∷ []
  changed-last zero [] d is = refl
  changed-last (suc at) [] d is = absurd (omega (arith, is))
  changed-last zero (x ∷ ds) d is = absurd (omega (arith, is))
  changed-last (suc at) (x ∷ ds) d is = ap (λ rest. x ∷ rest) (changed-last at ds d (omega (arith, is)))

  -- what stands at a place stays there
  config-before : (at : ℕ) (ds : List Domain) (d : Domain) → at < length ds → slice_get (configs_of (ds ++ d ∷ [])) at ≡ slice_get (configs_of ds) at
  config-before at [] d there = absurd (omega (arith, there))
  config-before zero (x ∷ ds) d there = refl
  config-before (suc at) (x ∷ ds) d there = config-before at ds d (omega (arith, there))

  config-last : (at : ℕ) (ds : List Domain) (d : Domain) → at ≡ length ds → slice_get (configs_of (ds ++ d ∷ [])) at ≡ Some d.config
  config-last zero [] d is = refl
  config-last (suc at) [] d is = absurd (omega (arith, is))
  config-last zero (x ∷ ds) d is = absurd (omega (arith, is))
  config-last (suc at) (x ∷ ds) d is = config-last at ds d (omega (arith, is))

  kept-at : (at : ℕ) (ds : List Data) (earlier : GuestList) → at < length earlier.domains
      → Ends (λ (guests : GuestList). slice_get (configs_of guests.domains) at ≡ slice_get (configs_of earlier.domains) at) (guests_from limits quantum page ds earlier)
  kept-at at [] earlier there = ends_value _ earlier refl
  kept-at at (d ∷ ds) earlier there =
      ends_rest _ (listed_in limits quantum page d earlier.domains) _ (λ (listed : Listed).
      record {
        ends = λ guests read.
            (kept-at at ds (with_guest earlier listed) (omega (arith, there, length_push earlier.domains listed.domain))).ends guests read
            ∙ config-before at earlier.domains listed.domain there;
      })

  -- the guests behind the one that is changed
  behind-follow : (at : ℕ) (ds : List Data) (earlier : GuestList) → at < length earlier.domains
      → Follows (Allowed at) (changed_guests at) (guests_from limits quantum page ds earlier) (guests_from limits quantum page ds (changed_guests at earlier))
  behind-follow at [] earlier there = follows_value (Allowed at) (changed_guests at) earlier (changed_guests at earlier) refl
  behind-follow at (d ∷ ds) earlier there =
      let next : Listed → GuestList = λ listed. with_guest (changed_guests at earlier) listed in
      let changed : (listed : Listed) → next listed ≡ changed_guests at (with_guest earlier listed) =
      λ listed. ap (λ (domains : List Domain). record { domains = domains; autostart = earlier.autostart ++ listed.autostart ∷ [] })
      (sym (changed-before at earlier.domains listed.domain there)) in
      rw (names-alike limits quantum page d earlier.domains (changed_at at on_domain earlier.domains) (names-changed at earlier.domains) (as-many at earlier.domains))
      (follows_rest (Allowed at) (changed_guests at) (listed_in limits quantum page d earlier.domains) _ _ (λ (listed : Listed).
      subst (λ (others : GuestList). Follows (Allowed at) (changed_guests at) (guests_from limits quantum page ds (with_guest earlier listed)) (guests_from limits quantum page ds others))
      (sym (changed listed))
      (behind-follow at ds (with_guest earlier listed) (omega (arith, there, length_push earlier.domains listed.domain)))))

  -- all of them
  guests-follow : (at place : ℕ) (olds : List Data) (old new : Data) (earlier : GuestList) → HasNumber (key_of setting) n old new
      → slice_get olds place ≡ Some old → at ≡ length earlier.domains + place
      → Follows (Allowed at) (changed_guests at) (guests_from limits quantum page olds earlier) (guests_from limits quantum page (set olds place new) earlier)
  guests-follow at place [] old new earlier alike stands is = absurd (cc)
  guests-follow at zero (d ∷ ds) old new earlier alike stands is =
      let same : d ≡ old = cc in
      let last : at ≡ length earlier.domains = omega (arith, is) in
      let changed : (listed : Listed) → changed_guests at (with_guest earlier listed) ≡ with_guest earlier (changed_guest setting n listed) =
      λ listed. ap (λ (domains : List Domain). record { domains = domains; autostart = earlier.autostart ++ listed.autostart ∷ [] })
      (changed-last at earlier.domains listed.domain last) in
      follows_then (InRange setting n) (changed_guest setting n) (Allowed at) (changed_guests at)
      (listed_in limits quantum page d earlier.domains) (listed_in limits quantum page new earlier.domains) _ _
      (subst (λ (d : Data). Follows (InRange setting n) (changed_guest setting n)
      (listed_in limits quantum page d earlier.domains) (listed_in limits quantum page new earlier.domains)) (sym same)
      (guest-follows limits quantum page setting n old new earlier.domains alike))
      (λ (listed : Listed). record {
        ends = λ guests read allowed.
            subst (λ (found : Option GuestConfig). IsSomeAnd found (IsInRange setting n))
            ((kept-at at ds (with_guest earlier listed) (omega (arith, last, length_push earlier.domains listed.domain))).ends guests read
            ∙ config-last at earlier.domains listed.domain last)
            allowed;
      })
      (λ (listed : Listed).
      subst (λ (others : GuestList). Follows (Allowed at) (changed_guests at) (guests_from limits quantum page ds (with_guest earlier listed)) (guests_from limits quantum page ds others))
      (changed listed)
      (behind-follow at ds (with_guest earlier listed) (omega (arith, last, length_push earlier.domains listed.domain))))
  guests-follow at (suc place) (d ∷ ds) old new earlier alike stands is =
      follows_rest (Allowed at) (changed_guests at) (listed_in limits quantum page d earlier.domains) _ _ (λ (listed : Listed).
      guests-follow at place ds old new (with_guest earlier listed) alike stands (omega (arith, is, length_push earlier.domains listed.domain)))

-- ---- the objects

is-object : (d found : Data) (key : List ℕ) → get key d ≡ Some found → is_object d ≡ true
is-object null found key stands = absurd (cc)
is-object (boolean b) found key stands = absurd (cc)
is-object (number m) found key stands = absurd (cc)
is-object (string s) found key stands = absurd (cc)
is-object (array ds) found key stands = absurd (cc)
is-object (object ms) found key stands = refl

objects-set : (ds : List Data) (place : ℕ) (new : Data) → is_object new ≡ true → list_all is_object ds ≡ true → list_all is_object (set ds place new) ≡ true
objects-set [] place new is all = refl
objects-set (d ∷ ds) zero new is all =
    let parts = and_parts (is_object d) (list_all is_object ds) all in λ i. is i && parts.1 i
objects-set (d ∷ ds) (suc place) new is all =
    let parts = and_parts (is_object d) (list_all is_object ds) all in λ i. parts.0 i && objects-set ds place new is parts.1 i

abbrev chosen : (all few : Bool) → List Data → Result (List Data) ConfigError
chosen all few ds = cond all (cond few (Ok ds) (Err Range)) (Err Kind)

chosen-follow : {B : Type 0} (Such : B → Type 0) (change : B → B) (all few all_new : Bool) (olds news : List Data) (next_old next_new : List Data → Result B ConfigError)
    → (all ≡ true → all_new ≡ true) → Follows Such change (next_old olds) (next_new news)
    → Follows Such change (chosen all few olds >>= next_old) (chosen all_new few news >>= next_new)
chosen-follow Such change true true all_new olds news next_old next_new keeps rest =
    subst (λ (b : Bool). Follows Such change (next_old olds) (chosen b true news >>= next_new)) (sym (keeps refl)) rest
chosen-follow Such change true false all_new olds news next_old next_new keeps rest = follows_fault Such change Range (chosen all_new false news >>= next_new)
chosen-follow Such change false few all_new olds news next_old next_new keeps rest = follows_fault Such change Kind (chosen all_new few news >>= next_new)

objects-follow : {B : Type 0} (Such : B → Type 0) (change : B → B) (limit : ℕ) (olds : List Data) (place : ℕ) (new : Data)
    (next_old next_new : List Data → Result B ConfigError) → is_object new ≡ true
    → Follows Such change (next_old olds) (next_new (set olds place new))
    → Follows Such change (among is_object limit olds >>= next_old) (among is_object limit (set olds place new) >>= next_new)
objects-follow Such change limit olds place new next_old next_new is rest =
    let few : nat_le (length (set olds place new)) limit ≡ nat_le (length olds) limit = ap (λ (k : ℕ). nat_le k limit) (length-set olds place new) in
    subst (λ (few : Bool). Follows Such change (among is_object limit olds >>= next_old) (chosen (list_all is_object (set olds place new)) few (set olds place new) >>= next_new))
    (sym few)
    (chosen-follow Such change (list_all is_object olds) (nat_le (length olds) limit) (list_all is_object (set olds place new)) olds (set olds place new) next_old next_new
    (objects-set olds place new is) rest)

-- ---- the root

module _ (setting : GuestSetting) (place n : ℕ) (old new : Data) (alike : HasGuestValue setting place n old new) where
  kept : (key : List ℕ) → bytes_eq key (codes "guests") ≡ false → get key new ≡ get key old
  kept key differ = alike.others key (apart key (codes "guests") differ refl)

  abbrev IsSuch : Config → Type 0
  IsSuch c = IsAllowed setting place n c

  abbrev revalued : Config → Config
  revalued c = with_guest_value setting place n c

  machine-same : (limits : Limits) → machine_in limits new ≡ machine_in limits old
  unfolding machine_in
  machine-same limits =
      rw (kept (codes "frames") refl, kept (codes "swap") refl, kept (codes "overhead") refl, kept (codes "tax") refl, kept (codes "percent") refl, kept (codes "page_rate") refl, kept (codes "rebalance") refl, kept (codes "page") refl)
      refl

  abbrev olds : List Data
  olds = list_of alike.old_guests

  old-objects : (limit : ℕ) → objects_in limit (get (codes "guests") old) ≡ among is_object limit olds
  old-objects limit = ap (objects_in limit) alike.old_stand

  new-objects : (limit : ℕ) → objects_in limit (get (codes "guests") new) ≡ among is_object limit (set olds place alike.new_guest)
  new-objects limit = ap (objects_in limit) alike.new_stand ∙ ap (among is_object limit) alike.guests

  guest-is-object : is_object alike.new_guest ≡ true
  guest-is-object = is-object alike.new_guest alike.guest.number (key_of setting) alike.guest.stands

  keys-follow : (limits : Limits) → Follows IsSuch revalued (keys_in limits old) (keys_in limits new)
  unfolding keys_in
  keys-follow limits =
      rw (machine-same limits, kept (codes "quantum") refl, kept (codes "epochs") refl, kept (codes "commands") refl, old-objects limits.guests, new-objects limits.guests)
      (follows_rest IsSuch revalued (machine_in limits old) _ _ (λ (machine : MachineConfig).
      follows_rest IsSuch revalued (number_or (get (codes "quantum") old) 1 65536 100) _ _ (λ (quantum : ℕ).
      follows_rest IsSuch revalued (required_number (get (codes "epochs") old) 0 10000) _ _ (λ (epochs : ℕ).
      objects-follow IsSuch revalued limits.guests olds place alike.new_guest _ _ guest-is-object
      (follows_rest IsSuch revalued (objects_or_none 10000 (get (codes "commands") old)) _ _ (λ (schedule : List Data).
      follows_then (Allowed limits quantum machine.page setting n place) (changed_guests limits quantum machine.page setting n place) IsSuch revalued
      (guests_from limits quantum machine.page olds no_guests) (guests_from limits quantum machine.page (set olds place alike.new_guest) no_guests) _ _
      (guests-follow limits quantum machine.page setting n place place olds alike.old_guest alike.new_guest no_guests alike.guest alike.there (omega arith))
      (λ (guests : GuestList). ends_rest _ (commands_from schedule []) _ (λ (commands : List ScheduledLine). ends_value _ _ (λ allowed. allowed)))
      (λ (guests : GuestList). follows_rest IsSuch revalued (commands_from schedule []) _ _ (λ (commands : List ScheduledLine).
      follows_value IsSuch revalued _ _ refl))))))))

  version-follows : (is_first : Bool) (limits : Limits)
      → Follows IsSuch revalued (cond is_first (keys_in version_1 old >>= (λ c. Ok (migrated c))) (keys_in limits old))
      (cond is_first (keys_in version_1 new >>= (λ c. Ok (migrated c))) (keys_in limits new))
  version-follows true limits =
      follows_then IsSuch revalued IsSuch revalued (keys_in version_1 old) (keys_in version_1 new) _ _ (keys-follow version_1)
      (λ (c : Config). ends_value _ _ (λ allowed. allowed)) (λ (c : Config). follows_value IsSuch revalued _ _ refl)
  version-follows false limits = keys-follow limits

  root-follows : (version : ℕ) → Follows IsSuch revalued (config_in version old) (config_in version new)
  root-follows version = version-follows (version == 1) (newer version)

pub root-means : (setting : GuestSetting) (version place value : ℕ) (old new : Data) (c : Config) → HasGuestValue setting place value old new
    → config_in version old ≡ Ok c → IsAllowed setting place value c → config_in version new ≡ Ok (with_guest_value setting place value c)
root-means setting version place value old new c alike is allowed = (root-follows setting place value old new alike version).follows c allowed is

pub text-means : (setting : GuestSetting) (place value : ℕ) (old new : List ℕ) (c : Config) → IsTextWith setting place value old new
    → config_of old ≡ Ok c → IsAllowed setting place value c → config_of new ≡ Ok (with_guest_value setting place value c)
text-means setting place value old new c alike is allowed =
    let before : config_of old ≡ (version_in 3 alike.old_root >>= (λ version. config_in version alike.old_root)) = rw alike.old_root_is refl in
    let after : config_of new ≡ (version_in 3 alike.old_root >>= (λ version. config_in version alike.new_root)) =
    rw (alike.new_root_is, kept setting place value alike.old_root alike.new_root alike.root (codes "version") refl) refl in
    let follows = follows_rest (IsAllowed setting place value) (with_guest_value setting place value) (version_in 3 alike.old_root)
    (λ version. config_in version alike.old_root) (λ version. config_in version alike.new_root)
    (root-follows setting place value alike.old_root alike.new_root alike.root) in
    after ∙ follows.follows c allowed (sym before ∙ is)
