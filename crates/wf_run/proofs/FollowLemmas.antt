-- How commands are followed, one after another.
use Rattle.std.proofs.Common.{◌≡◌, ◌<◌, ◌+◌, ◌++◌, ℕ, zero, suc, List, [], ◌∷◌, Bool, true, false, ◌||◌, is_some, length, get_or, take, refl, sym, subst, ap, ◌∙◌, append_assoc, append-nil, arith, length-append}
use Rattle.std.proofs.lemmas.List.{take_more}
use Rattle.std.specs.List.{AllByRecursion}
use Rattle.wf_outside.specs.Images.{DeltaValue, ImageValue}
use Rattle.wf_flat.specs.declared.event.Entry.{Entry}
use Rattle.wf_flat.specs.Boot.{boot_hart, boot_harts, boot_of}
use Rattle.wf_flat.specs.State.{FlatState}
use Rattle.wf_homes.specs.Homes.{homes_at_boot}
use Rattle.wf_legal.specs.Legal.{IsLegal, Moment, end_of}
use Rattle.wf_legal.proofs.JournalLemmas.{end_of-append, legal-append}
use Rattle.wf_script.specs.declared.command.Command.{Command}
use Rattle.wf_script.specs.declared.command.Command.TheVariants.{Step, Tick, Run, Patch, Create, Delete, Tables, Regs, Mem}
use Rattle.wf_script.specs.Commands.{IsCommand, IsScript, ScriptValue}
use Rattle.wf_report.specs.Listings.{ListingValue}
use Rattle.wf_report.specs.Reports.{report_bytes}
use Rattle.wf_follow.specs.Places.{Place, place_at}
use Rattle.wf_follow.specs.Follows.{Follows, Obeys}
use Rattle.wf_follow.specs.Runs.{IsRun}
use Rattle.wf_driver.specs.Machines.{AreHomesIn, HasObeyed, MachineValue, MayList, homes_wanted, machine_at, moment_of, place_of}
use Rattle.wf_usage.specs.declared.sizes.Sizes.{Sizes}
use Rattle.wf_run.specs.Stages.{RunFilesValue, limits_of}
use Rattle.wf_run.specs.Answers.{HasRun, start_for}
use Rattle.wf_run.specs.Following.{HasFollowed, is_tables, list_tables}

-- one command more is followed
follows_push : (commands : List Command) (command : Command) (p mid q : Place) (es block : List Entry) (ls more : List ListingValue) → Follows commands p es ls mid
    → Obeys command mid block more q → Follows (commands ++ command ∷ []) p (es ++ block) (ls ++ more) q
follows_push [] command p mid q es block ls more f o =
    record {
      mid = q;
      front = block;
      back = [];
      joined = ap (λ (xs : List Entry). xs ++ block) f.0.0 ∙ sym (append-nil block);
      first = more;
      others = [];
      listed = ap (λ (xs : List ListingValue). xs ++ more) f.1 ∙ sym (append-nil more);
      obeys = subst (λ (r : Place). Obeys command r block more q) f.0.1 o;
      rest = ((refl, refl), refl);
    }
follows_push (first ∷ commands) command p mid q es block ls more f o =
    record {
      mid = f.mid;
      front = f.front;
      back = f.back ++ block;
      joined = ap (λ (xs : List Entry). xs ++ block) f.joined ∙ append_assoc f.front f.back block;
      first = f.first;
      others = f.others ++ more;
      listed = ap (λ (xs : List ListingValue). xs ++ more) f.listed ∙ append_assoc f.first f.others more;
      obeys = f.obeys;
      rest = follows_push commands command f.mid mid q f.back block f.others more f.rest o;
    }

-- what a machine made of no command
pub followed_none : (machine : MachineValue) → HasFollowed [] machine machine
followed_none machine = record {
  made = [];
  listed = [];
  entries = sym (append-nil machine.entries);
  listings = sym (append-nil machine.listings);
  legal = tt;
  reached = refl;
  follows = record { each = λ homes own. record { after = homes; own = own; leads = ((refl, refl), refl) }; kept = refl };
}

followed_push : (commands : List Command) (command : Command) (old mid new : MachineValue) → HasFollowed commands old mid → HasObeyed command mid new
    → HasFollowed (commands ++ command ∷ []) old new
followed_push commands command old mid new f o = record {
  made = f.made ++ o.made;
  listed = f.listed ++ o.listed;
  entries = o.entries ∙ ap (λ (xs : List Entry). xs ++ o.made) f.entries ∙ append_assoc old.entries f.made o.made;
  listings = o.listings ∙ ap (λ (xs : List ListingValue). xs ++ o.listed) f.listings ∙ append_assoc old.listings f.listed o.listed;
  legal = legal-append (moment_of old) f.made o.made f.legal (subst (λ (m : Moment). IsLegal m o.made) f.reached o.legal);
  reached = o.reached ∙ ap (λ (m : Moment). end_of m o.made) f.reached ∙ sym (end_of-append (moment_of old) f.made o.made);
  follows = record {
    each = λ homes own. (
        let x = f.follows.each homes own in
        let y = o.obeys.each x.after x.own in
        record { after = y.after; own = y.own; leads = follows_push commands command (place_of old homes) (place_of mid x.after) (place_of new y.after) f.made o.made f.listed o.listed x.leads y.leads });
    kept = o.obeys.kept ∙ f.follows.kept;
  };
}

same_at : {A : Type 0} (xs : List A) (i : ℕ) (d e : A) → i < length xs → get_or xs i d ≡ get_or xs i e
same_at [] i d e h = absurd (omega arith)
same_at (x ∷ xs) zero d e h = refl
same_at (x ∷ xs) (suc i) d e h = same_at xs i d e (omega arith)

-- what it made of one command more
pub followed_more : (commands : List Command) (i : ℕ) (d : Command) (old mid new : MachineValue) → i < length commands → HasFollowed (take i commands) old mid
    → HasObeyed (get_or commands i d) mid new → HasFollowed (take (i + 1) commands) old new
followed_more commands i d old mid new lt f o =
    let command : Command = get_or commands i d in
    let is : command ≡ get_or commands i command = same_at commands i d command lt in
    let e : take (i + 1) commands ≡ take i commands ++ command ∷ [] = take_more commands i command lt ∙ ap (λ (x : Command). take i commands ++ x ∷ []) (sym is) in
    subst (λ (front : List Command). HasFollowed front old new) (sym e) (followed_push (take i commands) command old mid new f o)

all_taken : (commands : List Command) → take (length commands) commands ≡ commands
all_taken [] = refl
all_taken (command ∷ commands) = ap (λ (xs : List Command). command ∷ xs) (all_taken commands)

-- all commands were followed
pub followed_all : (commands : List Command) (i : ℕ) (old new : MachineValue) → i ≡ length commands → HasFollowed (take i commands) old new → HasFollowed commands old new
followed_all commands i old new e f =
    subst (λ (front : List Command). HasFollowed front old new) (ap (λ (n : ℕ). take n commands) e ∙ all_taken commands) f

-- ---- a whole run

-- the commands of a script, followed from the start of its run, are a run
own_at_start : (wanted : Bool) (s : FlatState) → AreHomesIn (homes_wanted wanted s) (homes_at_boot s)
own_at_start true s = refl
own_at_start false s = tt

pub run_is : (sizes : Sizes) (files : RunFilesValue) (old new : MachineValue) (wanted : Bool) → old ≡ machine_at files.deltas files.image sizes.harts (limits_of sizes) wanted
    → HasFollowed files.script.commands old new → HasRun sizes files new
run_is sizes files old new wanted e f =
    let flat : FlatState = boot_of files.image sizes.harts (limits_of sizes) in
    let g : HasFollowed files.script.commands (machine_at files.deltas files.image sizes.harts (limits_of sizes) wanted) new = subst (λ (m : MachineValue). HasFollowed files.script.commands m new) e f in
    let start : Moment = start_for sizes files.deltas files.image in
    let place : Place = place_at start in
    let entries : new.entries ≡ g.made = g.entries in
    let listings : new.listings ≡ g.listed = g.listings in
    let x = g.follows.each (homes_at_boot flat) (own_at_start wanted flat) in
    record {
      place = place_of new x.after;
      legal = subst (λ (es : List Entry). IsLegal start es) (sym entries) g.legal;
      follows =
          subst (λ (ls : List ListingValue). Follows files.script.commands place new.entries ls (place_of new x.after)) (sym listings)
          (subst (λ (es : List Entry). Follows files.script.commands place es g.listed (place_of new x.after)) (sym entries) x.leads);
      reached = g.reached ∙ ap (λ (es : List Entry). end_of start es) (sym entries);
    }

-- the report of a run
pub report_is : (sizes : Sizes) (files : RunFilesValue) (machine : MachineValue) (text : List ℕ) → HasRun sizes files machine
    → text ≡ report_bytes files.script.patches machine.entries machine.listings machine.flat → IsRun (start_for sizes files.deltas files.image) files.script text
report_is sizes files machine text run t = record {
  entries = machine.entries;
  listings = machine.listings;
  place = run.place;
  legal = run.legal;
  follows = run.follows;
  text_is = t ∙ ap (λ (m : Moment). report_bytes files.script.patches machine.entries machine.listings m.flat) run.reached;
}

-- ---- the harts and patches of a machine at its start

harts_length : (entry n : ℕ) → length (boot_harts entry n) ≡ n
unfolding boot_harts
harts_length entry zero = refl
harts_length entry (suc n) = let rest = harts_length entry n in let more = length-append (boot_harts entry n) (boot_hart entry n ∷ []) in omega arith

-- they are those of the script's commands
pub commands_there : (sizes : Sizes) (deltas : List DeltaValue) (image : ImageValue) (machine : MachineValue) (script : ScriptValue) (wanted : Bool) → machine ≡ machine_at deltas image sizes.harts (limits_of sizes) wanted
    → length deltas ≡ length script.patches → IsScript sizes.harts script → AllByRecursion (IsCommand (length machine.flat.harts) (length machine.deltas)) script.commands
commands_there sizes deltas image machine script wanted e all is =
    let harts : length machine.flat.harts ≡ sizes.harts = ap (λ (m : MachineValue). length m.flat.harts) e ∙ harts_length image.entry sizes.harts in
    let patches : length machine.deltas ≡ length script.patches = ap (λ (m : MachineValue). length m.deltas) e ∙ all in
    subst (λ (n : ℕ). AllByRecursion (IsCommand n (length machine.deltas)) script.commands) (sym harts)
    (subst (λ (k : ℕ). AllByRecursion (IsCommand sizes.harts k) script.commands) (sym patches) is.each)

-- a machine has homes where one of its commands lists page tables
may_one : (wanted : Bool) (command : Command) → (is_tables command ≡ true → wanted ≡ true) → MayList wanted command
may_one wanted (Tables generation) more = more refl
may_one wanted (Step h n) more = tt
may_one wanted (Tick actor n) more = tt
may_one wanted (Run n) more = tt
may_one wanted (Patch index begin) more = tt
may_one wanted (Create generation) more = tt
may_one wanted (Delete generation) more = tt
may_one wanted (Regs hart) more = tt
may_one wanted (Mem va n) more = tt

either_first : (a b : Bool) → a ≡ true → (a || b) ≡ true
either_first true b e = refl
either_first false b e = absurd cc

either_second : (a b : Bool) → b ≡ true → (a || b) ≡ true
either_second true b e = refl
either_second false b e = e

may_all : (wanted : Bool) (commands : List Command) → (list_tables commands ≡ true → wanted ≡ true) → AllByRecursion (MayList wanted) commands
may_all wanted [] more = tt
may_all wanted (command ∷ commands) more = (
  may_one wanted command (λ e. more (either_first (is_tables command) (list_tables commands) e)),
  may_all wanted commands (λ e. more (either_second (is_tables command) (list_tables commands) e)),
)

wanted_some : (wanted : Bool) (s : FlatState) → is_some (homes_wanted wanted s) ≡ wanted
wanted_some true s = refl
wanted_some false s = refl

pub commands_housed : (deltas : List DeltaValue) (image : ImageValue) (sizes : Sizes) (machine : MachineValue) (commands : List Command) (wanted : Bool) → machine ≡ machine_at deltas image sizes.harts (limits_of sizes) wanted → wanted ≡ list_tables commands
    → AllByRecursion (MayList (is_some machine.homes)) commands
commands_housed deltas image sizes machine commands wanted e is =
    let some : is_some machine.homes ≡ wanted = ap (λ (m : MachineValue). is_some m.homes) e ∙ wanted_some wanted (boot_of image sizes.harts (limits_of sizes)) in
    subst (λ (b : Bool). AllByRecursion (MayList b) commands) (sym some) (may_all wanted commands (λ t. is ∙ t))

-- the command at a place
pub housed_at : (housed : Bool) (commands : List Command) (i : ℕ) (d : Command) → i < length commands → AllByRecursion (MayList housed) commands → MayList housed (get_or commands i d)
housed_at housed [] i d lt all = absurd (omega arith)
housed_at housed (command ∷ commands) zero d lt all = all.0
housed_at housed (command ∷ commands) (suc i) d lt all = housed_at housed commands i d (omega arith) all.1
