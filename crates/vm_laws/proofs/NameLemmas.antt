-- The names of a configuration that was read.
use Rattle.std.proofs.Common.{◌≡◌, ℕ, zero, suc, ◌==◌, ◌&&◌, List, [], ◌∷◌, ◌++◌, Bool, true, false, not, is_some, Option, Result, Ok, Err, IfOk, if◌then◌else◌, refl, sym, ap, ◌∙◌, subst, inl, inr, codes}
use Rattle.std.proofs.lemmas.Bool.Decides.{eqb_tells}
use Rattle.std.specs.List.{list_all}
use Rattle.serde_json.specs.Data.{Data}
use Rattle.serde_json.specs.Find.{get}
use Rattle.vm_config.specs.declared.config.Config.{Config}
use Rattle.vm_config.specs.declared.error.ConfigError.{ConfigError}
use Rattle.vm_config.specs.declared.error.ConfigError.TheVariants.{Name, Twice}
use Rattle.vm_config.specs.Guests.{Listed, no_guests}
use Rattle.vm_config.specs.Keys.{number_or, objects_in, objects_or_none, required_number, text_in}
use Rattle.vm_config.specs.Migration.{migrated}
use Rattle.vm_config.specs.Names.{is_name, is_name_byte}
use Rattle.vm_config.specs.Outcomes.{◌>>=◌}
use Rattle.vm_config.specs.Reading.{commands_from, config_in, config_of, fresh_name, listed_in, guests_from, keys_in, machine_in, name_in, root_in, version_in}
use Rattle.vm_config.specs.Versions.{version_1, newer}
use Rattle.vm_domains.specs.Domains.{Domain, names_of, position_of}
use Rattle.vm_tally.specs.GuestTable.{name_at}
use Rattle.vm_laws.specs.Plain.{HasPlainNames, IsPlain, needs_quotes}

-- ---- a name

both : (a b : Bool) → (a && b) ≡ true → (a ≡ true) × (b ≡ true)
both true true is = (refl, refl)
both true false is = absurd (cc)
both false b is = absurd (cc)

plain-byte : (byte : ℕ) → is_name_byte byte ≡ true → not (needs_quotes byte) ≡ true
plain-byte byte is = rw (differs 34 refl, differs 44 refl, differs 13 refl, differs 10 refl) refl
  where
    differs : (n : ℕ) → is_name_byte n ≡ false → (byte == n) ≡ false
    differs n other =
        elim (eqb_tells byte n) [
          | inl same ↦ let never : false ≡ true = sym other ∙ ap is_name_byte (sym same.1) ∙ is in absurd (cc)
          | inr apart ↦ apart.0
        ]

plain-bytes : (text : List ℕ) → list_all is_name_byte text ≡ true → IsPlain text
plain-bytes [] is = refl
plain-bytes (byte ∷ text) is =
    let parts = both (is_name_byte byte) (list_all is_name_byte text) is in
    rw (plain-byte byte parts.0) (plain-bytes text parts.1)

plain-name : (name : List ℕ) → is_name name ≡ true → IsPlain name
plain-name name is = let parts = both _ (list_all is_name_byte name) is in plain-bytes name parts.1

-- ---- what was read, step by step

next-ok : (B : Type 0) (P : B → Type 0) (A : Type 0) (read : Result A ConfigError) (next : A → Result B ConfigError)
    → ((x : A) → IfOk (next x) P) → IfOk (read >>= next) P
next-ok B P A (Ok x) next rest = rest x
next-ok B P A (Err e) next rest = tt

known-ok : (B : Type 0) (P : B → Type 0) (A : Type 0) (read : Result A ConfigError) (Q : A → Type 0) (next : A → Result B ConfigError)
    → IfOk read Q → ((x : A) → Q x → IfOk (next x) P) → IfOk (read >>= next) P
known-ok B P A (Ok x) Q next known rest = rest x known
known-ok B P A (Err e) Q next known rest = tt

-- what is true of a name, of a guest, of domains and of a configuration
abbrev HasName : List ℕ → Type 0
HasName name = is_name name ≡ true

abbrev IsNamed : Listed → Type 0
IsNamed listed = HasName listed.domain.name

abbrev AreNamed : List Domain → Type 0
AreNamed [] = Unit {0}
AreNamed (d ∷ ds) = HasName d.name × AreNamed ds

abbrev NamesAll : Config → Type 0
NamesAll c = AreNamed c.domains

-- a name is taken only if it is one
fresh-is_name : (earlier : List Domain) (name : List ℕ) → IfOk (fresh_name earlier name) HasName
fresh-is_name earlier name = go (is_name name) (is_some (position_of name earlier)) refl
  where
    go : (named twice : Bool) → is_name name ≡ named → IfOk (if named then (if twice then Err Twice else Ok name) else Err Name) HasName
    go true true is = tt
    go true false is = is
    go false twice is = tt

name-read : (earlier : List Domain) (found : Option Data) → IfOk (name_in earlier found) HasName
name-read earlier found = next-ok (List ℕ) HasName (List ℕ) (text_in found) (fresh_name earlier) (fresh-is_name earlier)

guest-read : (limits : _) (quantum page : ℕ) (d : Data) (earlier : List Domain) → IfOk (listed_in limits quantum page d earlier) IsNamed
unfolding listed_in
guest-read limits quantum page d earlier =
    known-ok Listed IsNamed (List ℕ) (name_in earlier (get (codes "name") d)) HasName _ (name-read earlier (get (codes "name") d))
    (λ name named. search (next-ok Listed IsNamed, named) depth 30)

named-more : (ds : List Domain) (d : Domain) → AreNamed ds → HasName d.name → AreNamed (ds ++ d ∷ [])
named-more [] d are is = (is, tt)
named-more (first ∷ ds) d are is = (are.0, named-more ds d are.1 is)

guests-read : (limits : _) (quantum page : ℕ) (ds : List Data) (domains : List Domain) (autostart : List Bool) → AreNamed domains
    → IfOk (guests_from limits quantum page ds (record { domains = domains; autostart = autostart })) (λ g. AreNamed g.domains)
guests-read limits quantum page [] domains autostart are = are
guests-read limits quantum page (d ∷ ds) domains autostart are =
    known-ok _ (λ g. AreNamed g.domains) Listed (listed_in limits quantum page d domains) IsNamed _ (guest-read limits quantum page d domains)
    (λ listed named. guests-read limits quantum page ds (domains ++ listed.domain ∷ []) (autostart ++ listed.autostart ∷ []) (named-more domains listed.domain are named))

-- the rest of a configuration, once its guests are read
keys-read : (limits : _) (d : Data) → IfOk (keys_in limits d) NamesAll
unfolding keys_in
keys-read limits d =
    next-ok Config NamesAll _ (machine_in limits d) _
    (λ machine. next-ok Config NamesAll _ (number_or (get (codes "quantum") d) 1 65536 100) _
    (λ quantum. next-ok Config NamesAll _ (required_number (get (codes "epochs") d) 0 10000) _
    (λ epochs. next-ok Config NamesAll _ (objects_in limits.guests (get (codes "guests") d)) _
    (λ objects. next-ok Config NamesAll _ (objects_or_none 10000 (get (codes "commands") d)) _
    (λ schedule. known-ok Config NamesAll _ (guests_from limits quantum machine.page objects no_guests) (λ g. AreNamed g.domains) _ (guests-read limits quantum machine.page objects [] [] tt)
    (λ guests named. next-ok Config NamesAll _ (commands_from schedule []) _ (λ commands. named)))))))

config-read : (version : ℕ) (root : Data) → IfOk (config_in version root) NamesAll
config-read version root = go (version == 1)
  where
    go : (b : Bool) → IfOk (if b then keys_in version_1 root >>= (λ c. Ok (migrated c)) else keys_in (newer version) root) NamesAll
    go true = known-ok Config NamesAll Config (keys_in version_1 root) NamesAll (λ c. Ok (migrated c)) (keys-read version_1 root) (λ c are. are)
    go false = keys-read (newer version) root

all-read : (text : List ℕ) → IfOk (config_of text) NamesAll
all-read text =
    next-ok Config NamesAll Data (root_in text) _ (λ root. next-ok Config NamesAll ℕ (version_in 3 root) _ (λ version. config-read version root))

-- ---- in a table

plain-at : (ds : List Domain) (position : ℕ) → AreNamed ds → IsPlain (name_at (names_of ds) position)
plain-at [] position are = refl
plain-at (d ∷ ds) zero are = plain-name d.name are.0
plain-at (d ∷ ds) (suc position) are = plain-at ds position are.1

pub plain-names : (text : List ℕ) (c : Config) → config_of text ≡ Ok c → HasPlainNames c
plain-names text c is position =
    let named : AreNamed c.domains = subst (λ (r : Result Config ConfigError). IfOk r NamesAll) is (all-read text) in
    plain-at c.domains position named
