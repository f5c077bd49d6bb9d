-- A service that is read is appended to those before it, and an error of a service is the result of all services.
use Rattle.roman_library.proofs.Common.{Err, None, arith, map, refl, rules, ◌≡◌, err_from_is_err_and, goes_on, is_done, place_of, view, service_of, with_service_read, IsService, service_name, Service}
use Rattle.roman_library.proofs.LocatedLemmas.{located_holds, located_loads, located_ok, stops_all, stops_left}
use Rattle.roman_library.specs.declared.refusal.Part.TheVariants as part
use Rattle.roman_library.proofs.LibraryLemmas.{AreServices-push}
use Rattle.roman_library.proofs.services.read_items.Goals as goal

pub returns-in_err-service-clause-services : goal.returns-in_err-service-clause-services
unfolding with_service_read
returns-in_err-service-clause-services c = record {
  loads =
      let p = err_from_is_err_and c.from_residual-in_err-service.result c.from_residual-in_err-service.ensures.1 in
      let x = c.index-items-i.result in
      let why = c.in_err-service.field-0.0 in
      let read = service_of c.args.version c.args.catalogue.now c.deref.result.now (view x) in
      let stops = located_loads (λ (s : Service). s) c.args.document.now (part.Service c.loop-i.i) c.read_service-read.result read (Err why) c.read_service-read.ensures.service c.in_err-service.ensures in
      rw (p.1, p.2) (stops_left _ _ _ _ x why _ (omega arith) c.index-items-i.is (stops_all why _ _ (rw c.deref.ensures.value at stops)) c.loop-i.invariant.left);
  quiet = search rules;
}

pub loop-i-preserved : goal.loop-i-preserved
unfolding with_service_read
loop-i-preserved c =
    let i = c.loop-i.i in
    let x = c.index-items-i.result in
    let document = c.args.document.now in
    let s = c.in_ok-service.service in
    let loaded = located_ok (λ (x : Service). x) document (part.Service i) c.read_service-read.result (service_of c.args.version c.args.catalogue.now c.deref.result.now (view x)) s c.read_service-read.ensures.service c.in_ok-service.ensures in
    let new : place_of (map service_name c.deref.result.now) s.name ≡ None =
    located_holds (λ (y : Service). place_of (map service_name c.deref.result.now) y.name ≡ None) document (part.Service i) c.read_service-read.result s c.read_service-read.ensures.new c.in_ok-service.ensures in
    record {
      left = goes_on _ _ _ _ _ x _ (omega arith) c.index-items-i.is (rw (rw c.deref.ensures.value at loaded, c.in_ok-push.ensures.items) refl) c.loop-i.invariant.left;
      known = AreServices-push c.args.catalogue.now c.loop-i.services.items c.push.new.self.items s c.loop-i.invariant.known
          (located_holds (IsService c.args.catalogue.now) document (part.Service i) c.read_service-read.result s c.read_service-read.ensures.known c.in_ok-service.ensures)
          (rw c.deref.ensures.value at new) c.in_ok-push.ensures.items;
      count = search rules;
    }

pub returns-clause-services : goal.returns-clause-services
returns-clause-services c = record {
  loads = is_done _ _ _ _ _ (omega arith) c.loop-i.invariant.left;
  quiet = tt;
}
